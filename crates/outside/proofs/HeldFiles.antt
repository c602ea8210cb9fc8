-- A file that is put among others is found at its name, and the others at theirs.
use Rattle.std.proofs.Common.{◌≡◌, ◌≢◌, ℕ, ◌<◌, ◌≤◌, ◌++◌, ◌∷◌, [], Bool, true, false, List, Some, None, Option, length, find, position, option_map, get_or, refl, sym, ap, ◌∙◌, arith, string_bytes}
use Rattle.std.specs.List.{position_or_len}
use Rattle.std.proofs.Math.ListN.{set}
use Rattle.std.proofs.lemmas.Bool.{false_from_ne_true}
use Rattle.std.proofs.lemmas.Slice.Eq.{bytes_eq-Decides}
use Rattle.std.specs.Option.{option_or}
use Rattle.std.proofs.lemmas.Bool.Decides.{nat_tests}
use Rattle.std.proofs.lemmas.Option.{slice_get_past}
use Rattle.std.proofs.lemmas.List.Folds.{find-set, find_past, find-append, find_at}
use Rattle.std.proofs.lemmas.List.Sums.{position_or_len_is}
use Rattle.std.proofs.lemmas.List.Quantifiers.{position-Some}
use Rattle.outside.specs.declared.memory_files.HeldFile.{HeldFile}
use Rattle.outside.specs.MemoryFiles.{has_name, bytes_in, HoldsAt}

is_named : (name : List ℕ) (file : HeldFile) → has_name name file ≡ true → string_bytes file.name ≡ name
is_named name file h = (bytes_eq-Decides (string_bytes file.name) name).0 h

has_its_name : (name : List ℕ) (file : HeldFile) → string_bytes file.name ≡ name → has_name name file ≡ true
has_its_name name file h = (bytes_eq-Decides (string_bytes file.name) name).1 h

has_no_other : (name other : List ℕ) (file : HeldFile) → string_bytes file.name ≡ name → other ≢ name → has_name other file ≡ false
has_no_other name other file is apart =
    false_from_ne_true (has_name other file) (λ same. apart (sym (is_named other file same) ∙ is))

-- after other bytes in the first file of this name
pub HoldsAt-set : (files : List HeldFile) (place : ℕ) (old file : HeldFile) (name : List ℕ) → position (has_name name) files ≡ Some place → old ≡ get_or files place old → file.name ≡ old.name → HoldsAt (bytes_in files) (bytes_in (set files place file)) name file.bytes.items
HoldsAt-set files place old file name first there same =
    let at : (place < length files) × (has_name name (get_or files place old) ≡ true) × ((k : ℕ) → k < place → has_name name (get_or files k old) ≡ false) = position-Some (has_name name) files place old first in
    let was : string_bytes (get_or files place old).name ≡ name = is_named name (get_or files place old) at.1 in
    let is : string_bytes file.name ≡ name = ap string_bytes same ∙ ap (λ (f : HeldFile). string_bytes f.name) there ∙ was in
    let within : place ≤ length files = omega (arith, at.0) in
    let lies : position_or_len (has_name name) files ≡ place = position_or_len_is (has_name name) files place old within at.2 (λ _. at.1) in
    record {
      held = ap (option_map (λ (f : HeldFile). f.bytes.items)) (find-set (has_name name) files place file (sym lies) at.0 (has_its_name name file is));
      others = λ other apart. ap (option_map (λ (f : HeldFile). f.bytes.items)) (find_past (has_name other) files place file old (has_no_other name other (get_or files place old) was apart) (has_no_other name other file is apart));
    }

find-none : (p : HeldFile → Bool) (files : List HeldFile) → position p files ≡ None → find p files ≡ None
find-none p files none =
    let past : length files ≤ position_or_len p files = grind (arith, nat_tests) in
    find_at p files ∙ slice_get_past files (position_or_len p files) past

or_nothing : (found : Option HeldFile) → option_or found None ≡ found
or_nothing None = refl
or_nothing (Some file) = refl

-- after a push, where no file had this name
pub HoldsAt-push : (files : List HeldFile) (file : HeldFile) (name : List ℕ) → position (has_name name) files ≡ None → string_bytes file.name ≡ name → HoldsAt (bytes_in files) (bytes_in (files ++ file ∷ [])) name file.bytes.items
HoldsAt-push files file name none is =
    let yes : has_name name file ≡ true = has_its_name name file is in
    let nothing : find (has_name name) files ≡ None = find-none (has_name name) files none in
    let found : find (has_name name) (files ++ file ∷ []) ≡ Some file = rw (find-append (has_name name) files (file ∷ []), nothing, yes) in
    record {
      held = ap (option_map (λ (f : HeldFile). f.bytes.items)) found;
      others = λ other apart.
          let no : has_name other file ≡ false = has_no_other name other file is apart in
          let same : find (has_name other) (files ++ file ∷ []) ≡ find (has_name other) files = rw (find-append (has_name other) files (file ∷ []), no) (or_nothing (find (has_name other) files)) in
          ap (option_map (λ (f : HeldFile). f.bytes.items)) same;
    }
