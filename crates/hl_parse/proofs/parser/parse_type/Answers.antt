-- Answers to the goals of `parse_type`: the type that the tokens of a text are.
use Rattle.std.proofs.Common.{arith}
use Rattle.simplicityhl.specs.Grammar as grammar
use Rattle.simplicityhl.specs.Grammar.{most_depth}
use Rattle.hl_grammar.specs.Read as read
use Rattle.hl_grammar.proofs.Types.{type-exact}
use Rattle.hl_parse.proofs.Parsed.{parsed, found}
use Rattle.hl_grammar.proofs.Readables.{types}
use Rattle.hl_parse.proofs.Refusals.{cause, syntax_refused, depth_refused}
use Rattle.hl_parse.proofs.parser.parse_type.Goals as goal

pub returns-clause-is_type : goal.returns-clause-is_type
returns-clause-is_type c = parsed grammar.type most_depth (read.type most_depth) (λ bound. type-exact most_depth most_depth bound (omega arith)) c.args.tokens.now c.args.end c.read_type.result c.read_type.ensures

pub returns-clause-types : goal.returns-clause-types
returns-clause-types c = found grammar.type most_depth (read.type most_depth) (λ bound. type-exact most_depth most_depth bound (omega arith)) c.args.tokens.now c.args.end c.read_type.result c.read_type.ensures

pub returns-clause-cause : goal.returns-clause-cause
returns-clause-cause c = cause grammar.type read.type types c.args.tokens.now c.args.end c.read_type.result c.read_type.ensures

pub returns-clause-syntax : goal.returns-clause-syntax
returns-clause-syntax c = syntax_refused grammar.type read.type types c.args.tokens.now c.args.end c.read_type.result c.read_type.ensures

pub returns-clause-too_deep : goal.returns-clause-too_deep
returns-clause-too_deep c = depth_refused grammar.type read.type types c.args.tokens.now c.args.end c.read_type.result c.read_type.ensures
