-- Answers to the goals of `parse_value`: the value text that the tokens of a text are: an expression of
-- literals, truth values, tuples, arrays, `list!`, `Left`, `Right`, `Some` and `None` alone.
use Rattle.std.proofs.Common.{true, arith}
use Rattle.simplicityhl.specs.Grammar as grammar
use Rattle.simplicityhl.specs.Grammar.{most_depth}
use Rattle.hl_grammar.specs.Read as read
use Rattle.hl_grammar.proofs.Exprs.{expr_of_only-exact}
use Rattle.hl_grammar.proofs.Readables.{values}
use Rattle.hl_parse.proofs.Parsed.{parsed, found}
use Rattle.hl_parse.proofs.Refusals.{cause, syntax_refused, depth_refused}
use Rattle.hl_parse.proofs.parser.parse_value.Goals as goal

pub returns-clause-is_value : goal.returns-clause-is_value
returns-clause-is_value c = parsed grammar.value most_depth (read.value most_depth) (λ bound. expr_of_only-exact true most_depth most_depth bound (omega arith)) c.args.tokens.now c.args.end c.read_value.result c.read_value.ensures

pub returns-clause-values : goal.returns-clause-values
returns-clause-values c = found grammar.value most_depth (read.value most_depth) (λ bound. expr_of_only-exact true most_depth most_depth bound (omega arith)) c.args.tokens.now c.args.end c.read_value.result c.read_value.ensures

pub returns-clause-cause : goal.returns-clause-cause
returns-clause-cause c = cause grammar.value read.value values c.args.tokens.now c.args.end c.read_value.result c.read_value.ensures

pub returns-clause-syntax : goal.returns-clause-syntax
returns-clause-syntax c = syntax_refused grammar.value read.value values c.args.tokens.now c.args.end c.read_value.result c.read_value.ensures

pub returns-clause-too_deep : goal.returns-clause-too_deep
returns-clause-too_deep c = depth_refused grammar.value read.value values c.args.tokens.now c.args.end c.read_value.result c.read_value.ensures
