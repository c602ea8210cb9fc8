-- A refusal that is passed on.
use Rattle.std.proofs.Common.{◌≡◌, List, Result, Ok, Err, IsErrAnd, sym, subst}
use Rattle.hl_syntax.specs.declared.token.Token.{Token}
use Rattle.hl_cursor.specs.declared.refused.Refused.{Refused}
use Rattle.hl_cursor.specs.declared.refused.Refused.TheVariants.{Syntax, TooDeep, OutOfMemory}
use Rattle.hl_grammar.specs.Readers.{Outcome}
use Rattle.hl_cursor.specs.Gives.{Gives, Reads}

-- a refusal says the same of what is read, whatever a value would have stood for
refusal_reads : {X A : Type 0} (view : X → A) (outcome : Outcome A) (refused : Refused) (rest : List Token) → Gives view outcome (Err refused) rest → Reads outcome (Err refused) rest
refusal_reads view outcome Syntax rest h = h
refusal_reads view outcome TooDeep rest h = h
refusal_reads view outcome OutOfMemory rest h = tt

pub passed_on : {X A : Type 0} (view : X → A) (outcome : Outcome A) (refused : Refused) (result : Result A Refused) (rest : List Token) → Gives view outcome (Err refused) rest → IsErrAnd result (λ e. e ≡ refused) → Reads outcome result rest
passed_on view outcome refused (Ok a) rest h passed = absurd passed
passed_on view outcome refused (Err e) rest h passed = refusal_reads view outcome e rest (subst (λ (r : Refused). Gives view outcome (Err r) rest) (sym passed) h)
