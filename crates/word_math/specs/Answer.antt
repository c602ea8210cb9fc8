-- What the code's answers stand for, and which calls have one.
use Rattle.std.specs.Prelude.{ℕ, List, [], ◌∷◌, map, Option, Some, None}
use Rattle.jets.specs.Unsigned.{Unsigned}
use Rattle.word_math.specs.declared.answer.JetAnswer.{JetAnswer}
use Rattle.word_math.specs.declared.answer.JetAnswer.TheVariants as answer

-- the results; none where the jet failed
abbrev pub results_of : JetAnswer → Option (List Unsigned)
results_of answer.Nothing = Some []
results_of (answer.One a) = Some (a ∷ [])
results_of (answer.Two a b) = Some (a ∷ b ∷ [])
results_of answer.Failed = None

abbrev pub widths_of : List Unsigned → List ℕ
widths_of = map (λ u. u.width)

abbrev pub numbers_of : List Unsigned → List ℕ
numbers_of = map (λ u. u.number)
