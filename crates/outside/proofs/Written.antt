-- How a piece is written part by part.
use Rattle.std.proofs.Common.{ℕ, ◌-◌, Option, List, ◌++◌, length, take, drop, ap, ◌∙◌, append_assoc, take-append-drop}
use Rattle.std.proofs.lemmas.List.{take_rest}
use Rattle.std.proofs.KnownBytes.{Appends-trans}
use Rattle.std.specs.Io.KnownBytes.{Appends}
use Rattle.outside.specs.Streams.{Went}

-- so many bytes of the rest are written too
pub went_on : (a b c : Option (List ℕ)) (piece rest : List ℕ) (n : ℕ) → Went a b piece rest → Appends b c (take n rest) → Went a c piece (take (length rest - n) (drop n rest))
went_on a b c piece rest n went more = record {
  done = went.done ++ take n rest;
  appended = Appends-trans a b c went.done (take n rest) went.appended more;
  whole = append_assoc went.done (take n rest) (take (length rest - n) (drop n rest)) ∙ ap (λ l. went.done ++ (take n rest ++ l)) (take_rest rest n)
      ∙ ap (λ l. went.done ++ l) (take-append-drop n rest) ∙ went.whole;
}
