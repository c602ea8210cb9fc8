-- The answers to a walk of a written type.
use Rattle.std.specs.Prelude.{◌≡◌, Result, Ok, Err}
use Rattle.hl_types.specs.declared.refusal.TypeRefusal.{TypeRefusal}
use Rattle.hl_types.specs.declared.refusal.TypeRefusal.TheVariants.{Rule, Limit, OutOfMemory}
use Rattle.simplicityhl.specs.Written.{Broken, breaks_rule, breaks_limit}

-- an answer is what the walk finds, or memory was short
abbrev pub AnswersType : {A : Type 0} → Result A Broken → Result A TypeRefusal → Type 0
AnswersType found (Ok kind) = found ≡ Ok kind
AnswersType found (Err (Rule rule span)) = found ≡ Err (breaks_rule rule span)
AnswersType found (Err (Limit limit span)) = found ≡ Err (breaks_limit limit span)
AnswersType found (Err OutOfMemory) = Unit {0}
