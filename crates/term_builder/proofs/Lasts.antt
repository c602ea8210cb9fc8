-- The last of a list, as the first of it the other way round.
use Rattle.std.proofs.Common.{◌≡◌, ℕ, ◌-◌, ◌≤◌, ◌∙◌, sym, ap, length, take, drop, reverse, List, ◌++◌, arith}
use Rattle.std.proofs.Math.Seq.{take-append_seam}
use Rattle.std.proofs.lemmas.List.{take-append-drop, reverse-append, reverse-reverse, length-reverse, length-drop}

pub last_of : {A : Type 0} (n : ℕ) (xs : List A) → n ≤ length xs → drop (length xs - n) xs ≡ reverse (take n (reverse xs))
last_of n xs less =
    let split = ap reverse (sym (take-append-drop (length xs - n) xs)) ∙ reverse-append (take (length xs - n) xs) (drop (length xs - n) xs) in
    let long : n ≡ length (reverse (drop (length xs - n) xs)) = omega (arith, less, length-reverse (drop (length xs - n) xs), length-drop (length xs - n) xs) in
    sym (ap (λ l. reverse (take n l)) split
    ∙ ap (λ m. reverse (take m (reverse (drop (length xs - n) xs) ++ reverse (take (length xs - n) xs)))) long
    ∙ ap reverse (take-append_seam (reverse (drop (length xs - n) xs)) (reverse (take (length xs - n) xs)))
    ∙ reverse-reverse (drop (length xs - n) xs))
