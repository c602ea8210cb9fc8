-- The parts of the grammar that are read whole, each with its reader.
use Rattle.std.proofs.Common.{true, false, []}
use Rattle.simplicityhl.specs.Parts as g
use Rattle.simplicityhl.specs.Grammar as grammar
use Rattle.hl_grammar.specs.Read as read
use Rattle.hl_grammar.proofs.Types.{type_at}
use Rattle.hl_grammar.proofs.Exprs.{expr_at}
use Rattle.hl_grammar.proofs.Programs.{program_at}
use Rattle.hl_grammar.proofs.Regular as regular
use Rattle.hl_grammar.proofs.Places.{Readable, by_regular, by_ending}

pub types : Readable 1 grammar.type read.type
types = by_regular grammar.type read.type type_at regular.type

pub exprs : Readable 1 grammar.expr read.expr
exprs = by_regular grammar.expr read.expr (expr_at false) (regular.expr false)

pub values : Readable 1 grammar.value read.value
values = by_regular grammar.value read.value (expr_at true) (regular.expr true)

pub programs : Readable 0 grammar.program read.program
programs = by_ending (λ depth. g.turning (grammar.program_turn depth)) [] read.program program_at regular.program
