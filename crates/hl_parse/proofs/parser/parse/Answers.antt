-- Answers to the goals of `parse`: the program that the tokens of a text are.
use Rattle.std.proofs.Common.{arith}
use Rattle.simplicityhl.specs.Grammar as grammar
use Rattle.simplicityhl.specs.Grammar.{most_depth}
use Rattle.hl_grammar.specs.Read as read
use Rattle.hl_grammar.proofs.Programs.{program-exact}
use Rattle.hl_grammar.proofs.Readables.{programs}
use Rattle.hl_parse.proofs.Parsed.{parsed, found}
use Rattle.hl_parse.proofs.Refusals.{cause, syntax_refused, depth_refused}
use Rattle.hl_parse.proofs.parser.parse.Goals as goal

pub returns-clause-is_program : goal.returns-clause-is_program
returns-clause-is_program c = parsed grammar.program most_depth (read.program most_depth) (λ bound. program-exact most_depth most_depth bound (omega arith)) c.args.tokens.now c.args.end c.read_program.result c.read_program.ensures

pub returns-clause-programs : goal.returns-clause-programs
returns-clause-programs c = found grammar.program most_depth (read.program most_depth) (λ bound. program-exact most_depth most_depth bound (omega arith)) c.args.tokens.now c.args.end c.read_program.result c.read_program.ensures

pub returns-clause-cause : goal.returns-clause-cause
returns-clause-cause c = cause grammar.program read.program programs c.args.tokens.now c.args.end c.read_program.result c.read_program.ensures

pub returns-clause-syntax : goal.returns-clause-syntax
returns-clause-syntax c = syntax_refused grammar.program read.program programs c.args.tokens.now c.args.end c.read_program.result c.read_program.ensures

pub returns-clause-too_deep : goal.returns-clause-too_deep
returns-clause-too_deep c = depth_refused grammar.program read.program programs c.args.tokens.now c.args.end c.read_program.result c.read_program.ensures
