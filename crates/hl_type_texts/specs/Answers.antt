-- The answers of what reads a type text.
use Rattle.std.specs.Prelude.{Result, Ok, Err}
use Rattle.hl_type_texts.specs.declared.refusal.TypeTextRefusal.{TypeTextRefusal}
use Rattle.hl_type_texts.specs.declared.refusal.TypeTextRefusal.TheVariants.{NotType, OutOfMemory}

-- nothing is so
pub record IsNone {A : Type 0} (Is : A → Type 0) : Type 0 where
  pub none : (x : A) → Is x → ⊥

-- an answer is what is so, or that there is none, or memory was short
abbrev pub AnswersText : {A : Type 0} → (A → Type 0) → Result A TypeTextRefusal → Type 0
AnswersText Is (Ok x) = Is x
AnswersText Is (Err NotType) = IsNone Is
AnswersText Is (Err OutOfMemory) = Unit {0}
