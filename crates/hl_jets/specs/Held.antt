-- Values and answers at types.
use Rattle.std.specs.Prelude.{List, IsSome}
use Rattle.std.specs.List.{AllZip}
use Rattle.hl_data.specs.declared.value.HlValue.{HlValue}
use Rattle.hl_syntax.specs.declared.kinds.HlType.{HlType}
use Rattle.hl_meaning.specs.Answer.{Answer, gives, fails, stuck}
use Rattle.hl_meaning.specs.Values.{encoded}

-- as many values as types, each of the type at its place
abbrev pub AreValuesOf : List HlValue → List HlType → Type 0
AreValuesOf values kinds = AllZip (λ value kind. IsSome (encoded value kind)) values kinds

-- a value of the type, or failure
abbrev pub HasAnswer : HlType → Answer HlValue → Type 0
HasAnswer kind (gives value) = IsSome (encoded value kind)
HasAnswer kind fails = Unit {0}
HasAnswer kind stuck = ⊥
