-- The answers of what reads an entry.
use Rattle.std.specs.Prelude.{Result, Ok, Err}
use Rattle.serde_json.specs.Data.{Data}
use Rattle.hl_files.specs.declared.texts.EntryRefusal.{EntryRefusal}
use Rattle.hl_files.specs.declared.texts.EntryRefusal.TheVariants.{NotEntry, OutOfMemory}
use Rattle.hl_files.specs.declared.texts.Typed.{Typed}
use Rattle.hl_files.specs.Entries.{IsTyped, IsNoEntry}

-- an answer is an entry's type and the text of its value, or that it is no entry, or memory was short
abbrev pub FindsTyped : Data → Result Typed EntryRefusal → Type 0
FindsTyped entry (Ok found) = IsTyped entry found.kind found.text.now
FindsTyped entry (Err NotEntry) = IsNoEntry entry
FindsTyped entry (Err OutOfMemory) = Unit {0}
