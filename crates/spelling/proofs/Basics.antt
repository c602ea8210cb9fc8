-- One reading after another: what it got, and that it gets.
use Rattle.std.proofs.Common.{◌≡◌, refl, ap, ◌∙◌, ℕ, Bool, true, false, cond, List}
use Rattle.spelling.specs.Reading.{Read, Got, Refused, Refusal, Reading, then, give_if}

-- equal readings got the same
pub got_apart : {A : Type 0} (a b : A) (at end : ℕ) (us vs : List Bool) → Got a at us ≡ Got b end vs → (a ≡ b) × (at ≡ end) × (us ≡ vs)
got_apart a b at end us vs e = (cc, cc, cc)

-- what came of two readings came of the first, and then of the second
pub then_got : {A B : Type 0} (r : Read A) (f : A → Reading B) (b : B) (end : ℕ) (rest : List Bool) → then r f ≡ Got b end rest →
    (a : A) × (at : ℕ) × (mid : List Bool) × (r ≡ Got a at mid) × (f a at mid ≡ Got b end rest)
then_got (Got a at mid) f b end rest e = (a, at, mid, refl, e)
then_got (Refused r) f b end rest e = absurd (cc)

-- the first got this, so both get what the second gets
pub then_gets : {A B : Type 0} (r : Read A) (f : A → Reading B) (a : A) (at : ℕ) (mid : List Bool) (b : Read B) → r ≡ Got a at mid → f a at mid ≡ b → then r f ≡ b
then_gets r f a at mid b e g = ap (λ x. then x f) e ∙ g

-- what came after a test came where it holds
pub cond_got : {A : Type 0} (t : Bool) (r : Read A) (otherwise : Refusal) (a : A) (end : ℕ) (rest : List Bool) → cond t r (Refused otherwise) ≡ Got a end rest → (t ≡ true) × (r ≡ Got a end rest)
cond_got true r otherwise a end rest e = (refl, e)
cond_got false r otherwise a end rest e = absurd (cc)

-- what came where a test fails
pub unless_got : {A : Type 0} (t : Bool) (r : Read A) (otherwise : Refusal) (a : A) (end : ℕ) (rest : List Bool) → cond t (Refused otherwise) r ≡ Got a end rest → (t ≡ false) × (r ≡ Got a end rest)
unless_got false r otherwise a end rest e = (refl, e)
unless_got true r otherwise a end rest e = absurd (cc)

-- the test of a value holds
pub give_gets : {A : Type 0} (t : Bool) (otherwise : Refusal) (a : A) (at : ℕ) (bits : List Bool) → t ≡ true → give_if t otherwise a at bits ≡ Got a at bits
give_gets t otherwise a at bits e = ap (λ x. cond x (Got a at bits) (Refused otherwise)) e
