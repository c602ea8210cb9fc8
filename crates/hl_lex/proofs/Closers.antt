-- Looking for the first `*/` of a text, place by place.
use Rattle.std.proofs.Common.{◌≡◌, refl, ap, ℕ, suc, ◌+◌, ◌<◌, false, List, ◌∷◌, length, drop, arith, get_or, nat_eq, Option, Some, None}
use Rattle.std.specs.Prelude.{codes, option_map}
use Rattle.std.specs.List.{starts_with}
use Rattle.std.proofs.lemmas.List.{drop_more}
use Rattle.simplicityhl.specs.Tokens.{closer_end}

counted_on : (i : ℕ) (found : Option ℕ) → option_map (λ n. i + n) (option_map (λ n. suc n) found) ≡ option_map (λ n. (i + 1) + n) found
counted_on i None = refl
counted_on i (Some n) = ap (λ (m : ℕ). Some m) (omega arith)

none_here : (c : ℕ) (z : List ℕ) → starts_with nat_eq (c ∷ z) (codes "*/") ≡ false → closer_end (c ∷ z) ≡ option_map (λ n. suc n) (closer_end z)
none_here c z e = rw e refl

-- where no `*/` stands at a place, it is looked for at the next
pub closer_later : (text : List ℕ) (i : ℕ) → i < length text → starts_with nat_eq (drop i text) (codes "*/") ≡ false → option_map (λ n. i + n) (closer_end (drop i text)) ≡ option_map (λ n. (i + 1) + n) (closer_end (drop (i + 1) text))
closer_later text i short e =
    let shape = drop_more text i 0 short in
    let here = none_here (get_or text i 0) (drop (i + 1) text) (rw shape at e) in
    rw shape (rw here (counted_on i (closer_end (drop (i + 1) text))))
