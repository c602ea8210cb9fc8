-- The outermost variables of a scope.
use Rattle.std.proofs.Common.{◌≡◌, ℕ, List, ◌++◌, length, take, reverse, sym, ap, ◌∙◌}
use Rattle.std.proofs.Math.Seq.{take-append_seam}
use Rattle.std.proofs.lemmas.List.{reverse-append, length-reverse, reverse-reverse}

pub outer_left : {A : Type 0} (names inner outer : List A) (n : ℕ) → reverse names ≡ inner ++ outer → length outer ≡ n → reverse (take n names) ≡ outer
outer_left names inner outer n e len =
    let back : names ≡ reverse outer ++ reverse inner = sym (reverse-reverse names) ∙ ap reverse e ∙ reverse-append inner outer in
    let long : n ≡ length (reverse outer) = sym len ∙ sym (length-reverse outer) in
    ap reverse (ap (λ m. take m names) long ∙ ap (take (length (reverse outer))) back ∙ take-append_seam (reverse outer) (reverse inner)) ∙ reverse-reverse outer
