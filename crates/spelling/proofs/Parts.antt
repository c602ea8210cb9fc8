-- The parts of a natural, read one after the other, are the natural.
use Rattle.std.proofs.Common.{◌≡◌, refl, ap, sym, ◌∙◌, ℕ, zero, suc, Bool, true, false, List, [], ◌∷◌}
use Rattle.spelling.specs.Reading.{Read, Got, Refused, Reading, then, give, natural_from, power, read_natural}
use Rattle.spelling.specs.Parts.{ones, powers}
use Rattle.spelling.specs.Laws.{NaturalsHaveParts}

-- what comes after two readings comes after the second
pub then_then : {A B C : Type 0} (r : Read A) (f : A → Reading B) (g : B → Reading C) → then (then r f) g ≡ then r (λ a at bits. then (f a at bits) g)
then_then (Got a at bits) f g = refl
then_then (Refused r) f g = refl

-- readings that go on alike are alike
pub then_same : {A B : Type 0} (r : Read A) (f g : A → Reading B) → ((a : A) (at : ℕ) (bits : List Bool) → f a at bits ≡ g a at bits) → then r f ≡ then r g
then_same (Got a at bits) f g e = e a at bits
then_same (Refused r) f g e = refl

pub then_give : {A : Type 0} (r : Read A) → then r give ≡ r
then_give (Got a at bits) = refl
then_give (Refused r) = refl

-- one part more at the end
powers_more : (start n value at : ℕ) (bits : List Bool) → powers start (suc n) value at bits ≡ then (powers start n value at bits) (power start)
powers_more start zero value at bits =
    then_same (power start value at bits) (powers start 0) give (λ a at' bits'. refl) ∙ then_give (power start value at bits)
powers_more start (suc n) value at bits =
    then_same (power start value at bits) (powers start (suc n)) (λ a at' bits'. then (powers start n a at' bits') (power start)) (λ a at' bits'. powers_more start n a at' bits')
    ∙ sym (then_then (power start value at bits) (powers start n) (power start))

pub parts_are : (start at : ℕ) (bits : List Bool) → natural_from start at bits ≡ then (ones at bits) (λ n. powers start n 1)
parts_are start at [] = refl
parts_are start at (false ∷ bits) = refl
parts_are start at (true ∷ bits) =
    ap (λ r. then r (power start)) (parts_are start (suc at) bits)
    ∙ then_then (ones (suc at) bits) (λ n. powers start n 1) (power start)
    ∙ then_same (ones (suc at) bits) (λ n at' bits'. then (powers start n 1 at' bits') (power start)) (λ n. powers start (suc n) 1) (λ n at' bits'. sym (powers_more start n 1 at' bits'))
    ∙ sym (then_then (ones (suc at) bits) (λ n. give (suc n)) (λ n. powers start n 1))

pub naturals_have_parts : NaturalsHaveParts
naturals_have_parts at bits = parts_are at at bits
