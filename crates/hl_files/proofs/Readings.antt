-- Readings of a file, from what its names give in turn.
use Rattle.std.proofs.Common.{◌≡◌, ℕ, ◌+◌, ◌<◌, List, [], ◌∷◌, ◌++◌, length, get_or, map, Option, Some, None, Result, Ok, Err, ap, ◌∙◌}
use Rattle.std.specs.Prelude.{IfOk, IfSome, Bool, filter, is_some}
use Rattle.std.proofs.lemmas.List.Elements.{All-push}
use Rattle.hl_data.specs.declared.value.Entry.{Entry}
use Rattle.hl_syntax.specs.declared.kinds.HlType.{HlType}
use Rattle.hl_syntax.specs.declared.kinds.TypedName.{TypedName}
use Rattle.serde_json.specs.Data.{Data}
use Rattle.serde_json.specs.Find.{get}
use Rattle.hl_files.specs.declared.refusal.TextRefusal.{TextRefusal}
use Rattle.hl_files.specs.declared.refusal.TextRefusal.TheVariants as refusal
use Rattle.hl_files.specs.declared.refusal.WantedRefusal.{WantedRefusal}
use Rattle.hl_files.specs.declared.refusal.WantedRefusal.TheVariants as wanted
use Rattle.hl_files.specs.Objects.{IsObject}
use Rattle.hl_files.specs.Reads.{AreNamed, FindsAt, ReadsEntries, WantedAt, ReadsWanted, typed_name}
use Rattle.hl_files.specs.Turns.{before, Then, Always, InTurn}
use Rattle.hl_meaning.specs.Entries.{IsValued, AreValued}
use Rattle.hl_files.proofs.Turning.{Passed, passed_some, never}

pub reads_from : (text : List ℕ) (names : List (List ℕ)) (file : Data) (r : Result (List Entry) TextRefusal) → IsObject text file → InTurn (FindsAt file) names r → ReadsEntries text names r
reads_from text names file (Err refusal.NotJson) is h = absurd (never refusal.NotJson (FindsAt file) (λ x g. g) names h)
reads_from text names file (Err refusal.OutOfMemory) is h = tt
reads_from text names file r is h = (file, is, h)

pub reads_wanted_from : (text : List ℕ) (asked : List TypedName) (file : Data) (r : Result (List Entry) WantedRefusal) → IsObject text file → InTurn (Always (WantedAt file)) asked r → ReadsWanted text asked r
reads_wanted_from text asked file (Err wanted.NotJson) is h = absurd (never wanted.NotJson (Always (WantedAt file)) (λ x g. g) asked h)
reads_wanted_from text asked file (Err wanted.OutOfMemory) is h = tt
reads_wanted_from text asked file r is h = (file, is, h)

name_of : List ℕ → HlType → TypedName
name_of n k = record { name = n; kind = k }

same_name : (found : Entry) (asked : TypedName) → found.name ≡ asked.name → found.kind ≡ asked.kind → typed_name found ≡ asked
unfolding name_of
same_name found asked n k = ap (λ x. name_of x found.kind) n ∙ ap (λ x. name_of asked.name x) k

wanted_then : (file : Data) (asked : TypedName) (more : List TypedName) (first : Result (Option Entry) WantedRefusal) (entries : List Entry) →
    ((rest : List Entry) → InTurn (Always (WantedAt file)) more (Ok rest) → map typed_name rest ≡ more) →
    Always (WantedAt file) asked first → Then (InTurn (Always (WantedAt file)) more) first (Ok entries) → map typed_name entries ≡ asked ∷ more
wanted_then file asked more (Err e) entries rest g t = absurd (cc)
wanted_then file asked more (Ok None) entries rest g t = absurd g
wanted_then file asked more (Ok (Some found)) entries rest g t = named t.0 t.1 t.2
  where
    named : (r : Result (List Entry) WantedRefusal) → InTurn (Always (WantedAt file)) more r → Ok entries ≡ before (Some found) r → map typed_name entries ≡ asked ∷ more
    named (Err e) h is = absurd (cc)
    named (Ok after) h is =
        let same : entries ≡ found ∷ after = cc in
        ap (map typed_name) same ∙ ap (λ n. n ∷ map typed_name after) (same_name found asked g.0 g.1) ∙ ap (λ ns. asked ∷ ns) (rest after h)

wanted_names : (file : Data) (asked : List TypedName) (entries : List Entry) → InTurn (Always (WantedAt file)) asked (Ok entries) → map typed_name entries ≡ asked
wanted_names file [] entries h = let same : entries ≡ [] = cc in ap (map typed_name) same
wanted_names file (name ∷ asked) entries h = wanted_then file name asked h.0 entries (wanted_names file asked) h.1 h.2

-- the entries of wanted names are those of the names, with their types
pub names_are_wanted : (file : Data) (asked : List TypedName) (r : Result (List Entry) WantedRefusal) → InTurn (Always (WantedAt file)) asked r → IfOk r (λ entries. map typed_name entries ≡ asked)
names_are_wanted file asked (Ok entries) h = wanted_names file asked entries h
names_are_wanted file asked (Err e) h = tt

module _ {A E : Type 0} (Gives : A → Result (Option Entry) E → Type 0) (xs : List A) (place : ℕ) (x : A) (less : place < length xs) (is : x ≡ get_or xs place x) where
  pub entry_next : (old new : List Entry) (o : Option Entry) (entry : Entry) → o ≡ Some entry → new ≡ old ++ entry ∷ [] → Gives x (Ok o) → IfSome o IsValued → Passed Gives xs place old → AreValued old →
      Passed Gives xs (place + 1) new × AreValued new
  entry_next old new o entry some more g valued p h =
      let p' = passed_some Gives xs place x less is old entry (rw some at g) p in
      let h' = All-push IsValued old entry h (rw some at valued) in
      (rw more p', rw more h')

-- the names of the entries that are there
abbrev has : Data → List ℕ → Bool
has file name = is_some (get name file)

names_then : (file : Data) (name : List ℕ) (more : List (List ℕ)) (first : Result (Option Entry) TextRefusal) (entries : List Entry) →
    ((rest : List Entry) → InTurn (FindsAt file) more (Ok rest) → map (λ entry. entry.name) rest ≡ filter (has file) more) →
    FindsAt file name first → Then (InTurn (FindsAt file) more) first (Ok entries) → map (λ entry. entry.name) entries ≡ filter (has file) (name ∷ more)
names_then file name more (Err e) entries rest g t = absurd (cc)
names_then file name more (Ok None) entries rest g t = rw g (without t.0 t.1 t.2)
  where
    without : (r : Result (List Entry) TextRefusal) → InTurn (FindsAt file) more r → Ok entries ≡ before None r → map (λ entry. entry.name) entries ≡ filter (has file) more
    without (Err e) h is = absurd (cc)
    without (Ok after) h is = let same : entries ≡ after = cc in ap (map (λ entry. entry.name)) same ∙ rest after h
names_then file name more (Ok (Some found)) entries rest g t = rw g.1.there (named t.0 t.1 t.2)
  where
    named : (r : Result (List Entry) TextRefusal) → InTurn (FindsAt file) more r → Ok entries ≡ before (Some found) r → map (λ entry. entry.name) entries ≡ name ∷ filter (has file) more
    named (Err e) h is = absurd (cc)
    named (Ok after) h is =
        let same : entries ≡ found ∷ after = cc in
        ap (map (λ entry. entry.name)) same ∙ ap (λ n. n ∷ map (λ entry. entry.name) after) g.0 ∙ ap (λ ns. name ∷ ns) (rest after h)

names_there : (file : Data) (names : List (List ℕ)) (entries : List Entry) → InTurn (FindsAt file) names (Ok entries) → map (λ entry. entry.name) entries ≡ filter (has file) names
names_there file [] entries h = let same : entries ≡ [] = cc in ap (map (λ entry. entry.name)) same
names_there file (name ∷ names) entries h = names_then file name names h.0 entries (names_there file names) h.1 h.2

pub are_named : (text : List ℕ) (names : List (List ℕ)) (file : Data) (r : Result (List Entry) TextRefusal) → IsObject text file → InTurn (FindsAt file) names r → IfOk r (AreNamed text names)
are_named text names file (Ok entries) is h = record { file = file; object = is; names_are = names_there file names entries h }
are_named text names file (Err e) is h = tt
