-- Entries of data files: `{"value": "TEXT", "type": "TEXT"}`, whatever further members there are.
use Rattle.std.specs.Prelude.{◌≡◌, ◌≢◌, ℕ, List, Some, codes}
use Rattle.hl_data.specs.declared.value.HlValue.{HlValue}
use Rattle.hl_syntax.specs.declared.kinds.HlType.{HlType}
use Rattle.serde_json.specs.Data.{Data}
use Rattle.hl_files.specs.Objects.{text_at}
use Rattle.hl_type_texts.specs.Texts.{IsTypeText}
use Rattle.hl_values.specs.Reads.{IsNoValueText}
use Rattle.hl_values.specs.Written.{IsValueText}

-- an entry with a type, and with the text of its value
pub record IsTyped (entry : Data) (kind : HlType) (text : List ℕ) : Type 0 where
  pub type_text : List ℕ
  pub type : text_at (codes "type") entry ≡ Some type_text
  pub typed : IsTypeText type_text kind
  pub valued : text_at (codes "value") entry ≡ Some text

-- no entry: no object, or one without the two texts, or with a text that is no type text
pub record IsNoEntry (entry : Data) : Type 0 where
  pub none : (kind : HlType) (text : List ℕ) → IsTyped entry kind text → ⊥

-- an entry of the type whose text is a value text for the value
pub record HasValue (entry : Data) (kind : HlType) (value : HlValue) : Type 0 where
  pub text : List ℕ
  pub typed : IsTyped entry kind text
  pub valued : IsValueText text kind value

-- an entry whose text is no value text of its type
pub record HasNoValue (entry : Data) : Type 0 where
  pub kind : HlType
  pub text : List ℕ
  pub typed : IsTyped entry kind text
  pub none : IsNoValueText text kind

-- an entry of another type
pub record HasOtherType (entry : Data) (wanted : HlType) : Type 0 where
  pub kind : HlType
  pub text : List ℕ
  pub typed : IsTyped entry kind text
  pub other : kind ≢ wanted

-- an entry of the type whose text is no value text of it
pub record HasNoValueOf (entry : Data) (kind : HlType) : Type 0 where
  pub text : List ℕ
  pub typed : IsTyped entry kind text
  pub none : IsNoValueText text kind
