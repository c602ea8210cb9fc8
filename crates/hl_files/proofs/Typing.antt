-- Entries without a type text.
use Rattle.std.proofs.Common.{◌≡◌, ℕ, List, Some, codes, sym, ◌∙◌}
use Rattle.serde_json.specs.Data.{Data}
use Rattle.hl_type_texts.specs.Answers.{IsNone}
use Rattle.hl_type_texts.specs.Texts.{IsTypeText}
use Rattle.hl_files.specs.Entries.{IsNoEntry}
use Rattle.hl_files.specs.Objects.{text_at}

-- an entry with a text that is no type text
pub no_type_text : (entry : Data) (type_text : List ℕ) → Some type_text ≡ text_at (codes "type") entry → IsNone (IsTypeText type_text) → IsNoEntry entry
no_type_text entry type_text is h =
    record { none = λ kind text t. let e = is ∙ t.type in let same : type_text ≡ t.type_text = cc in h.none kind (rw (sym same) at t.typed) }
