-- Values and scopes at types.
use Rattle.std.specs.Prelude.{◌≡◌, Some}
use Rattle.hl_data.specs.declared.value.HlValue.{HlValue}
use Rattle.hl_syntax.specs.declared.kinds.TypedName.{TypedName}
pub use Rattle.hl_jets.specs.Held.{AreValuesOf, HasAnswer}
use Rattle.hl_meaning.specs.Answer.{Answer, gives, fails, stuck}
use Rattle.hl_meaning.specs.Scopes.{Scope, meant}
use Rattle.hl_meaning.specs.Entries.{IsValueOf}

-- failure, or something of which this holds
abbrev pub Holds : {A : Type 0} → (A → Type 0) → Answer A → Type 0
Holds P (gives x) = P x
Holds P fails = Unit {0}
Holds P stuck = ⊥

-- the scope gives the name a value of its type
pub record HasValue (scope : Scope) (name : TypedName) : Type 0 where
  pub value : HlValue
  pub is : meant name.name scope ≡ Some value
  pub fits : IsValueOf value name.kind
