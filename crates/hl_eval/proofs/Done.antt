-- What statements and calls have done.
use Rattle.std.proofs.Common.{◌≡◌, ◌-◌, [], ◌++◌, length, drop, Option, Some, None, option_map, Result, Ok, Err, refl, sym, ap, ◌∙◌, subst, arith, append-nil, length-append}
use Rattle.std.specs.Result.{IsErrAnd}
use Rattle.std.proofs.lemmas.Result.{err_from_is_err_and}
use Rattle.std.proofs.Math.Seq.{drop-append_seam}
use Rattle.hl_data.specs.declared.value.HlValue.{HlValue}
use Rattle.hl_meaning.specs.Answer.{Answer, gives, and_then, shaped}
use Rattle.hl_meaning.specs.Scopes.{Scope}
use Rattle.hl_meaning.specs.Mean.{Meaning, StatementMeaning}
use Rattle.hl_eval.specs.Over.{IsOver}
use Rattle.hl_eval.specs.Outcome.{HasFault, IsLacking, Leaves, Continues, Stops, Goes}
use Rattle.hl_eval.specs.declared.fault.EvalFault.{EvalFault}
use Rattle.hl_eval.specs.declared.fault.EvalFault.TheVariants as fault
use Rattle.hl_eval.proofs.Turns.{over_self}

pub fault_as : {A : Type 0} (whole rest : Answer A) (e : EvalFault) → whole ≡ rest → HasFault rest e → HasFault whole e
fault_as whole rest e is h = subst (λ a. HasFault a e) (sym is) h

-- a statement that stops
pub goes_exit : {A : Type 0} (s : StatementMeaning) (old new : Scope) (r : Result A EvalFault) (e : EvalFault) → IsErrAnd r (λ y. y ≡ e) → ((after : Meaning) → HasFault (s after old) e) → Goes s old r new
goes_exit s old new r e is h =
    let p = err_from_is_err_and r is in let stops : Stops s old e = record { fault = h } in
    subst (λ q. Goes s old q new) (sym (p.1 ∙ ap Err p.2)) stops

over_append : (n s : Scope) → IsOver (n ++ s) s
over_append n s =
    let many : length (n ++ s) - length s ≡ length n = omega (arith, length-append n s) in
    record { longer = omega (arith, length-append n s); ends = ap (λ k. drop k (n ++ s)) many ∙ drop-append_seam n s }

-- a statement that binds
let_continues : (s : StatementMeaning) (o : Option Scope) (old new : Scope) → ((after : Meaning) → s after old ≡ shaped o (λ n. after (n ++ old))) → option_map (λ n. n ++ old) o ≡ Some new → Continues s old new
let_continues s None old new h e = absurd (cc)
let_continues s (Some n) old new h e =
    let is : n ++ old ≡ new = cc in
    record { over = subst (λ t. IsOver t old) is (over_append n old); next = λ after. h after ∙ ap after is }

let_stops : (s : StatementMeaning) (o : Option Scope) (old : Scope) (e : EvalFault) → ((after : Meaning) → s after old ≡ shaped o (λ n. after (n ++ old))) → IsLacking (option_map (λ n. n ++ old) o) e → (after : Meaning) → HasFault (s after old) e
let_stops s o old fault.Failed h l after = absurd l
let_stops s None old fault.NoAnswer h l after = h after
let_stops s (Some n) old fault.NoAnswer h l after = absurd (cc)
let_stops s o old fault.OutOfMemory h l after = tt

pub let_goes : {A : Type 0} (s : StatementMeaning) (o : Option Scope) (old now new : Scope) (r : Result A EvalFault) → ((after : Meaning) → s after old ≡ shaped o (λ n. after (n ++ old))) → now ≡ old →
    Leaves (option_map (λ n. n ++ now) o) r new → Goes s old r new
let_goes s o old now new (Ok x) h e l = let_continues s o old new h (subst (λ t. option_map (λ n. n ++ t) o ≡ Some new) e l)
let_goes s o old now new (Err f) h e l = record { fault = let_stops s o old f h (subst (λ t. IsLacking (option_map (λ n. n ++ t) o) f) e l) }

-- a statement that only takes a value
pub plain_continues : (s : StatementMeaning) (m : Answer HlValue) (v : HlValue) (old new : Scope) → ((after : Meaning) → s after old ≡ and_then m (λ _. after old)) → m ≡ gives v → new ≡ old → Continues s old new
plain_continues s m v old new h e is =
    record { over = subst (λ t. IsOver t old) (sym is) (over_self old); next = λ after. h after ∙ ap (λ a. and_then a (λ _. after old)) e ∙ ap after (sym is) }

-- a scope that begins with nothing
pub given_all : (o : Option Scope) (s : Scope) → option_map (λ n. n ++ []) o ≡ Some s → o ≡ Some s
given_all None s e = absurd (cc)
given_all (Some x) s e = let same = append-nil x in cc

pub given_none : (o : Option Scope) (e : EvalFault) → IsLacking (option_map (λ n. n ++ []) o) e → IsLacking o e
given_none o fault.Failed l = absurd l
given_none None fault.NoAnswer l = refl
given_none (Some x) fault.NoAnswer l = absurd (cc)
given_none o fault.OutOfMemory l = tt
