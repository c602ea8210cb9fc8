-- Where a loop that reads files has come to.
use Rattle.std.proofs.Common.{◌≡◌, inl, inr, ℕ, zero, suc, ◌+◌, ◌<◌, ◌≤◌, List, [], ◌∷◌, ◌++◌, length, map, take, get_or, slice_get, Some, Result, Ok, Err, IsErrAnd, refl, sym, ap, ◌∙◌, subst, arith}
use Rattle.std.proofs.lemmas.List.{map-append}
use Rattle.std.specs.declared.vec.Vec.{Vec}
use Rattle.outside.specs.Counts.{raised, HasRisen}
use Rattle.outside.specs.Files.{Held, StoreState}
use Rattle.command_outcome.specs.declared.status.Status.{Status}
use Rattle.command_outcome.specs.declared.stop.Stop.{Stop}
use Rattle.command_outcome.specs.Stops.{Stops}
use Rattle.command_outcome.proofs.Stopping.{stops_in}
use Rattle.command_files.specs.declared.files.NamedFile.{NamedFile}
use Rattle.command_files.specs.Files.{File, Holds}
use Rattle.command_files.specs.Reads.{AreReadFrom, HasReadOf, IsFirstUnread, IsUnread, WereRead, fault, file_of, raises, refused, texts_of}

-- so many of the files were read
pub record Reached (named : List NamedFile) (before now : StoreState) (place : ℕ) (found : List (List ℕ)) : Type 0 where
  pub held : now.held ≡ before.held
  pub within : place ≤ length named
  pub reads : now.reads ≡ raises place before.reads
  pub faults : before.faults ≤ now.faults
  pub were : WereRead before.held (take place (map file_of named)) found

pub at_first : (named : List NamedFile) (before : StoreState) → Reached named before before 0 []
at_first named before = record { held = refl; within = omega arith; reads = refl; faults = omega arith; were = tt }

were_more : (held : Held) (files : List File) (found : List (List ℕ)) (file : File) (bytes : List ℕ) → WereRead held files found → Holds held file.name (Some bytes) × (length bytes ≤ file.most) → WereRead held (files ++ file ∷ []) (found ++ bytes ∷ [])
were_more held [] [] file bytes h k = (k, tt)
were_more held [] (b ∷ found) file bytes h k = absurd h
were_more held (f ∷ files) [] file bytes h k = absurd h
were_more held (f ∷ files) (b ∷ found) file bytes h k = (h.0, were_more held files found file bytes h.1 k)

-- a count that rose later rose from the first on
risen_since : (a b c : ℕ) → a ≤ b → HasRisen b c → HasRisen a c
risen_since a b c le (inl less) = inl (omega (arith, le, less))
risen_since a b c le (inr top) = inr top

-- a file more behind those that were found
texts_more : {G : Type 0} (found more : List (Vec ℕ G)) (bytes : Vec ℕ G) → more ≡ found ++ bytes ∷ [] → texts_of more ≡ texts_of found ++ bytes.items ∷ []
texts_more found more bytes is = ap texts_of is ∙ map-append (λ v. v.items) found (bytes ∷ [])

lengths_are : (xs : List NamedFile) → length (map file_of xs) ≡ length xs
lengths_are [] = refl
lengths_are (x ∷ xs) = ap suc (lengths_are xs)

module _ (named : List NamedFile) (before now after : StoreState) (place : ℕ) (less : place < length named) (found : List (List ℕ)) (h : Reached named before now place found) (read : after.reads ≡ raised now.reads) where
  counted : after.reads ≡ raises (suc place) before.reads
  counted = read ∙ ap raised h.reads

  -- one more file was read, or tried
  pub more_reads : HasReadOf (map file_of named) before after
  more_reads = record { count = suc place; within = omega (arith, less, lengths_are named); are = counted }

  module _ (d : NamedFile) where
    abbrev file : File
    file = file_of (get_or named place d)

    there : slice_get (map file_of named) place ≡ Some file
    there = mapped named place less
      where
        mapped : (xs : List NamedFile) (i : ℕ) → i < length xs → slice_get (map file_of xs) i ≡ Some (file_of (get_or xs i d))
        mapped [] i l = absurd (omega (arith, l))
        mapped (x ∷ xs) zero l = refl
        mapped (x ∷ xs) (suc i) l = mapped xs i (omega (arith, l))

    taken : (xs : List NamedFile) (i : ℕ) → i < length xs → take (suc i) (map file_of xs) ≡ take i (map file_of xs) ++ file_of (get_or xs i d) ∷ []
    taken [] i l = absurd (omega (arith, l))
    taken (x ∷ xs) zero l = refl
    taken (x ∷ xs) (suc i) l = ap (λ ys. file_of x ∷ ys) (taken xs i (omega (arith, l)))

    pub one_more : {G : Type 0} (old new : List (Vec ℕ G)) (bytes : Vec ℕ G) → texts_of old ≡ found → new ≡ old ++ bytes ∷ [] → after.held ≡ now.held → now.faults ≤ after.faults → Holds now.held file.name (Some bytes.items) × (length bytes.items ≤ file.most) → Reached named before after (place + 1) (texts_of new)
    one_more old new bytes are pushed same rises holds =
        let next : suc place ≡ place + 1 = omega arith in
        let texts : found ++ bytes.items ∷ [] ≡ texts_of new = ap (λ ts. ts ++ bytes.items ∷ []) (sym are) ∙ sym (texts_more old new bytes pushed) in
        subst (λ n. Reached named before after n (texts_of new)) next (subst (Reached named before after (suc place)) texts (record {
          held = same ∙ h.held;
          within = omega (arith, less);
          reads = counted;
          faults = omega (arith, h.faults, rises);
          were = subst (λ fs. WereRead before.held fs (found ++ bytes.items ∷ [])) (sym (taken named place less))
              (were_more before.held (take place (map file_of named)) found file bytes.items h.were (subst (λ st. Holds st file.name (Some bytes.items) × (length bytes.items ≤ file.most)) h.held holds));
        }))

    unread_since : (s : Status) (o e : List ℕ) → IsUnread now.held file now.faults after.faults s o e → IsUnread before.held file before.faults after.faults s o e
    unread_since s o e (fault risen a) = fault (risen_since before.faults now.faults after.faults h.faults risen) a
    unread_since s o e (refused content holds a) = refused content (subst (λ st. Holds st file.name content) h.held holds) a

    first_unread : (stop : Stop) → Stops (IsUnread now.held file now.faults after.faults) stop → Stops (IsFirstUnread (map file_of named) before after) stop
    first_unread stop is =
        stops_in (IsUnread now.held file now.faults after.faults) (IsFirstUnread (map file_of named) before after) stop
        (λ s o e a. record { place = place; file = file; there = there; found = found; were = h.were; reads = counted; unread = unread_since s o e a }) is

    pub unread_stops : {G : Type 0} (stop : Stop) (r : Result (Vec (Vec ℕ G) G) Stop) → Stops (IsUnread now.held file now.faults after.faults) stop → IsErrAnd r (λ (other : Stop). other ≡ stop) → AreReadFrom before after (map file_of named) r
    unread_stops stop (Ok bytes) is same = absurd same
    unread_stops stop (Err other) is same = subst (λ (x : Stop). Stops (IsFirstUnread (map file_of named) before after) x) (sym same) (first_unread stop is)

-- all were read
all_taken : (xs : List File) (n : ℕ) → length xs ≤ n → take n xs ≡ xs
all_taken [] zero l = refl
all_taken [] (suc n) l = refl
all_taken (x ∷ xs) zero l = absurd (omega (arith, l))
all_taken (x ∷ xs) (suc n) l = ap (λ ys. x ∷ ys) (all_taken xs n (omega (arith, l)))

module _ (named : List NamedFile) (before now : StoreState) (place : ℕ) (past : length named ≤ place) (found : List (List ℕ)) (h : Reached named before now place found) where
  all_counted : now.reads ≡ raises (length (map file_of named)) before.reads
  all_counted = let whole : place ≡ length (map file_of named) = omega (arith, past, h.within, lengths_are named) in h.reads ∙ ap (λ n. raises n before.reads) whole

  pub all_were : WereRead before.held (map file_of named) found × (now.reads ≡ raises (length (map file_of named)) before.reads)
  all_were = (subst (λ fs. WereRead before.held fs found) (all_taken (map file_of named) place (omega (arith, past, lengths_are named))) h.were, all_counted)

  pub all_reads : HasReadOf (map file_of named) before now
  all_reads = record { count = length (map file_of named); within = omega arith; are = all_counted }
