-- The encoding of values at a sound type is one to one onto the core values of the type's form.
use Rattle.std.specs.Prelude.{◌≡◌, Some}
use Rattle.hl_data.specs.declared.value.HlValue.{HlValue}
use Rattle.hl_syntax.specs.declared.kinds.HlType.{HlType}
use Rattle.simplicity.specs.Types.{Value, IsOf}
use Rattle.simplicityhl.specs.Kinds.{form, IsSound}
use Rattle.hl_meaning.specs.Values.{encoded, decoded}

-- a value that a core value is the encoding of
pub record IsEncoded (k : HlType) (c : Value) : Type 0 where
  pub value : HlValue
  pub decodes : decoded k c ≡ Some value
  pub encodes : encoded value k ≡ Some c

-- what a value is encoded in is of the form, and is decoded to the value; and each core value of the form is decoded to a value
-- that is encoded in it
pub record ValuesCode : Type 0 where
  pub there : (k : HlType) → IsSound k → (v : HlValue) (c : Value) → encoded v k ≡ Some c → IsOf c (form k) × (decoded k c ≡ Some v)
  pub back : (k : HlType) → IsSound k → (c : Value) → IsOf c (form k) → IsEncoded k c
