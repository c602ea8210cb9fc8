-- Parts of lists, and what replacing some items does to them.
use Rattle.std.proofs.Common.{◌≡◌, ℕ, ◌+◌, ◌-◌, ◌≤◌, ◌⊎◌, inl, inr, List, ◌++◌, length, take, drop, refl, sym, ap, ◌∙◌, arith, append_assoc, length-append, length-take-le, length-drop}
use Rattle.std.proofs.lemmas.List.{take-append-drop, take-take, take_at, take-append-le, drop-drop, drop_at, drop-append-le, drop-take}
use Rattle.frame_stack.specs.Parts.{part, paste}

module _ {A : Type 0} where
  pub length_part : (i n : ℕ) (l : List A) → i + n ≤ length l → length (part i n l) ≡ n
  length_part i n l h = length-take-le n (drop i l) (omega (arith, length-drop i l))

  -- places are equal where their numbers are
  pub same_part : (i j m n : ℕ) (l : List A) → i ≡ j → m ≡ n → part i m l ≡ part j n l
  same_part i j m n l e f = ap (λ (x : ℕ). part x m l) e ∙ ap (λ (x : ℕ). part j x l) f

  pub join_parts : (i m n : ℕ) (l : List A) → part i (m + n) l ≡ part i m l ++ part (i + m) n l
  join_parts i m n l =
      let d : List A = drop i l in
      sym (take-append-drop m (take (m + n) d)) ∙ ap (λ (x : List A). x ++ drop m (take (m + n) d)) (take-take m (m + n) d (omega arith))
      ∙ ap (λ (x : List A). take m d ++ x) (drop-take m n d) ∙ ap (λ (x : List A). take m d ++ take n x) (drop-drop m i l)

  pub part_of_drop : (i k n : ℕ) (l : List A) → drop k (part i (k + n) l) ≡ part (i + k) n l
  part_of_drop i k n l = drop-take k n (drop i l) ∙ ap (take n) (drop-drop k i l)

  pub part_of_take : (i k n : ℕ) (l : List A) → k ≤ n → take k (part i n l) ≡ part i k l
  part_of_take i k n l h = take-take k n (drop i l) h

  part_front : (i n : ℕ) (p q : List A) → i + n ≤ length p → part i n (p ++ q) ≡ part i n p
  part_front i n p q h =
      ap (take n) (drop-append-le i p q (omega arith)) ∙ take-append-le n (drop i p) q (omega (arith, length-drop i p))

  -- a part before what is replaced
  pub part_below : (at : ℕ) (xs l : List A) (i n : ℕ) → i + n ≤ at → at ≤ length l → part i n (paste at xs l) ≡ part i n l
  part_below at xs l i n h within =
      let short : i + n ≤ length (take at l) = omega (arith, length-take-le at l within) in
      part_front i n (take at l) (xs ++ drop (at + length xs) l) short ∙ sym (part_front i n (take at l) (drop at l) short)
      ∙ ap (part i n) (take-append-drop at l)

  pub length_paste : (at : ℕ) (xs l : List A) → at + length xs ≤ length l → length (paste at xs l) ≡ length l
  length_paste at xs l h =
      omega (arith, length-append (take at l) (xs ++ drop (at + length xs) l), length-append xs (drop (at + length xs) l), length-take-le at l (omega arith), length-drop (at + length xs) l)

  drop_paste : (at : ℕ) (xs l : List A) → at + length xs ≤ length l → drop (at + length xs) (paste at xs l) ≡ drop (at + length xs) l
  drop_paste at xs l h =
      let long : length (take at l ++ xs) ≡ at + length xs = length-append (take at l) xs ∙ ap (λ (x : ℕ). x + length xs) (length-take-le at l (omega arith)) in
      ap (drop (at + length xs)) (sym (append_assoc (take at l) xs (drop (at + length xs) l))) ∙ drop_at (take at l ++ xs) (drop (at + length xs) l) (at + length xs) long

  -- a part past what is replaced
  pub part_above : (at : ℕ) (xs l : List A) (i n : ℕ) → at + length xs ≤ i → at + length xs ≤ length l → part i n (paste at xs l) ≡ part i n l
  part_above at xs l i n h within =
      let far : ℕ = at + length xs in
      let same : far + (i - far) ≡ i = omega arith in
      ap (λ (x : ℕ). part x n (paste at xs l)) (sym same) ∙ ap (take n) (sym (drop-drop (i - far) far (paste at xs l)) ∙ ap (drop (i - far)) (drop_paste at xs l within) ∙ drop-drop (i - far) far l)
      ∙ ap (λ (x : ℕ). part x n l) same

  -- the part that is replaced
  pub part_in : (at : ℕ) (xs l : List A) → at ≤ length l → part at (length xs) (paste at xs l) ≡ xs
  part_in at xs l h =
      ap (take (length xs)) (drop_at (take at l) (xs ++ drop (at + length xs) l) at (length-take-le at l h)) ∙ take_at xs (drop (at + length xs) l) (length xs) refl

  pub part_apart : (at : ℕ) (xs l : List A) (i n : ℕ) → (i + n ≤ at) ⊎ (at + length xs ≤ i) → at + length xs ≤ length l → part i n (paste at xs l) ≡ part i n l
  part_apart at xs l i n (inl below) within = part_below at xs l i n below (omega arith)
  part_apart at xs l i n (inr above) within = part_above at xs l i n above within
