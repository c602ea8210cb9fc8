-- Data files as JSON objects. Of members of one name the last stays.
use Rattle.std.specs.Prelude.{◌≡◌, ℕ, List, Option, Some, IsSome, IsUtf8, option_and_then, Result, Ok, Err}
use Rattle.serde_json.specs.Data.{Data}
use Rattle.serde_json.specs.Find.{as_object, as_str, get}
use Rattle.serde_json.specs.Read.{read}
use Rattle.serde_json.specs.View.{view}
use Rattle.serde_json.specs.declared.value.Value.{Value}
use Rattle.hl_files.specs.declared.object.ObjectRefusal.{ObjectRefusal}
use Rattle.hl_files.specs.declared.object.ObjectRefusal.TheVariants.{NotJson, OutOfMemory}

-- the text is this JSON object
pub record IsObject (text : List ℕ) (file : Data) : Type 0 where
  pub utf8 : IsUtf8 text
  pub reads : read text ≡ Some file
  pub object : IsSome (as_object file)

-- the text is no JSON, or no object
pub record IsNoObject (text : List ℕ) : Type 0 where
  pub none : (file : Data) → IsObject text file → ⊥

-- the text that an object has as the member of a name
abbrev pub text_at : List ℕ → Data → Option (List ℕ)
text_at name found = option_and_then as_str (get name found)

-- an answer is the object, or that there is none, or memory was short
abbrev pub ReadsObject : List ℕ → Result Value ObjectRefusal → Type 0
ReadsObject text (Ok file) = IsObject text (view file)
ReadsObject text (Err NotJson) = IsNoObject text
ReadsObject text (Err OutOfMemory) = Unit {0}
