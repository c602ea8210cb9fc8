-- AnswersMeaning of parts, and the exits that their faults lead to.
use Rattle.std.proofs.Common.{◌≡◌, Option, Some, None, Result, Err, refl, sym, ap, ◌∙◌, subst}
use Rattle.std.specs.Result.{IsErrAnd}
use Rattle.std.proofs.lemmas.Result.{err_from_is_err_and}
use Rattle.hl_meaning.specs.Answer.{Answer, gives, fails, stuck, and_then, shaped, known}
use Rattle.hl_meaning.specs.Scopes.{Scope}
use Rattle.hl_eval.specs.declared.fault.EvalFault.{EvalFault}
use Rattle.hl_eval.specs.declared.fault.EvalFault.TheVariants as fault
use Rattle.hl_eval.specs.Outcome.{HasFault, AnswersMeaning, IsLacking, Leaves}

-- an equal answer
pub answers_as : {A : Type 0} (whole rest : Answer A) (r : Result A EvalFault) → whole ≡ rest → AnswersMeaning rest r → AnswersMeaning whole r
answers_as whole rest r e h = subst (λ a. AnswersMeaning a r) (sym e) h

-- a value as it is
pub just_value : {A : Type 0} (part : Answer A) → part ≡ and_then part (λ v. gives v)
just_value (gives v) = refl
just_value fails = refl
just_value stuck = refl

-- what comes after a value
pub after_value : {A B : Type 0} (part : Answer B) (next : B → Answer A) (v : B) (r : Result A EvalFault) → part ≡ gives v → AnswersMeaning (next v) r → AnswersMeaning (and_then part next) r
after_value part next v r e h = subst (λ a. AnswersMeaning (and_then a next) r) (sym e) h

pub after_known : {A B : Type 0} (part : Option B) (next : B → Answer A) (v : B) (r : Result A EvalFault) → known part ≡ gives v → AnswersMeaning (next v) r → AnswersMeaning (shaped part next) r
after_known None next v r e h = absurd (cc)
after_known (Some w) next v r e h = let same : v ≡ w = cc in subst (λ x. AnswersMeaning (next x) r) same h

-- what comes after a fault
pub after_fault : {A B : Type 0} (part : Answer B) (next : B → Answer A) (e : EvalFault) → HasFault part e → HasFault (and_then part next) e
after_fault part next fault.Failed h = ap (λ a. and_then a next) h
after_fault part next fault.NoAnswer h = ap (λ a. and_then a next) h
after_fault part next fault.OutOfMemory h = tt

pub after_unknown : {A B : Type 0} (part : Option B) (next : B → Answer A) (e : EvalFault) → HasFault (known part) e → HasFault (shaped part next) e
after_unknown None next fault.Failed h = absurd (cc)
after_unknown (Some x) next fault.Failed h = absurd (cc)
after_unknown None next fault.NoAnswer h = refl
after_unknown (Some x) next fault.NoAnswer h = absurd (cc)
after_unknown part next fault.OutOfMemory h = tt

-- the exit of a fault
pub exits : {A : Type 0} (whole : Answer A) (r : Result A EvalFault) (e : EvalFault) → IsErrAnd r (λ y. y ≡ e) → HasFault whole e → AnswersMeaning whole r
exits whole r e is h =
    let p = err_from_is_err_and r is in subst (λ q. AnswersMeaning whole q) (sym (p.1 ∙ ap Err p.2)) h

pub part_exits : {A B : Type 0} (part : Answer B) (next : B → Answer A) (r : Result A EvalFault) (e : EvalFault) → IsErrAnd r (λ y. y ≡ e) → HasFault part e → AnswersMeaning (and_then part next) r
part_exits part next r e is h = exits (and_then part next) r e is (after_fault part next e h)

-- the exit where names couldn't be bound
lacks_too : (wanted part : Option Scope) (e : EvalFault) → (part ≡ None → wanted ≡ None) → IsLacking part e → IsLacking wanted e
lacks_too wanted part fault.Failed next h = h
lacks_too wanted part fault.NoAnswer next h = next h
lacks_too wanted part fault.OutOfMemory next h = tt

pub leaves_exit : {A : Type 0} (wanted part : Option Scope) (r : Result A EvalFault) (e : EvalFault) (new : Scope) → IsErrAnd r (λ y. y ≡ e) → (part ≡ None → wanted ≡ None) → IsLacking part e → Leaves wanted r new
leaves_exit wanted part r e new is next h =
    let p = err_from_is_err_and r is in subst (λ q. Leaves wanted q new) (sym (p.1 ∙ ap Err p.2)) (lacks_too wanted part e next h)

pub unbound_exit : {A : Type 0} (part : Option Scope) (next : Scope → Answer A) (r : Result A EvalFault) (e : EvalFault) → IsErrAnd r (λ y. y ≡ e) → IsLacking part e → AnswersMeaning (shaped part next) r
unbound_exit part next r e is h = exits (shaped part next) r e is (unbound part next e h) where
  unbound : {A : Type 0} (part : Option Scope) (next : Scope → Answer A) (e : EvalFault) → IsLacking part e → HasFault (shaped part next) e
  unbound part next fault.Failed h = absurd h
  unbound part next fault.NoAnswer h = ap (λ o. shaped o next) h
  unbound part next fault.OutOfMemory h = tt
