-- Values of types, and entries of data files that have values of theirs.
use Rattle.std.specs.Prelude.{List, IsSome}
use Rattle.std.specs.List.{All}
use Rattle.hl_data.specs.declared.value.Entry.{Entry}
use Rattle.hl_data.specs.declared.value.HlValue.{HlValue}
use Rattle.hl_syntax.specs.declared.kinds.HlType.{HlType}
use Rattle.simplicityhl.specs.Kinds.{IsSound}
use Rattle.hl_meaning.specs.Values.{encoded}

-- a value is of a type exactly where it is encoded at it
abbrev pub IsValueOf : HlValue → HlType → Type 0
IsValueOf value kind = IsSome (encoded value kind)

-- an entry's type has sound widths, counts and bounds, and its value is of its type
pub record IsValued (entry : Entry) : Type 0 where
  pub kind : IsSound entry.kind
  pub value : IsValueOf entry.value entry.kind

abbrev pub AreValued : List Entry → Type 0
AreValued entries = All IsValued entries
