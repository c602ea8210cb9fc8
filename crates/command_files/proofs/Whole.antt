-- Files that are read one after the other: answers to what they hold, to files that were read, and to the first that wasn't.
use Rattle.std.proofs.Common.{◌≡◌, ℕ, zero, suc, ◌≤◌, List, [], ◌∷◌, length, map, take, slice_get, Option, Some, None, refl, sym, ap, ◌∙◌, subst, arith}
use Rattle.std.proofs.lemmas.Bool.Decides.{nat_tests}
use Rattle.outside.specs.Files.{Held}
use Rattle.command_outcome.specs.declared.status.Status.{Status}
use Rattle.command_outcome.specs.declared.status.Status.TheVariants.{ReadFault, LimitReached}
use Rattle.command_outcome.specs.Answer.{Answer, Never, IsOneIn}
use Rattle.command_outcome.proofs.OneSource.{one_refusal}
use Rattle.command_outcome.proofs.Leading.{Grows}
use Rattle.command_files.specs.Files.{AreRead, Contents, File, HoldEach, Holds, IsFileRead, reads_in, not_held, too_long, whole}
use Rattle.command_files.specs.Reads.{WereRead}

-- One answer.

same_bytes : (content : Option (List ℕ)) (a b : List ℕ) → content ≡ Some a → content ≡ Some b → a ≡ b
same_bytes content a b p q = let e : ◌≡◌ {A = Option (List ℕ)} (Some a) (Some b) = sym p ∙ q in cc

one_file : (part : List ℕ → List ℕ) (file : File) (Next : List ℕ → Answer) → ((bytes : List ℕ) → IsOneIn part (Next bytes)) → (content : Option (List ℕ)) → IsOneIn part (IsFileRead file content Next)
one_file part file Next each content s t o p e f (not_held none a) (not_held none' b) = one_refusal part _ _ s t o p e f a b
one_file part file Next each content s t o p e f (not_held none a) (too_long bytes here long b) = absurd (cc)
one_file part file Next each content s t o p e f (not_held none a) (whole bytes here few b) = absurd (cc)
one_file part file Next each content s t o p e f (too_long bytes here long a) (not_held none b) = absurd (cc)
one_file part file Next each content s t o p e f (too_long bytes here long a) (too_long bytes' here' long' b) = one_refusal part _ _ s t o p e f a b
one_file part file Next each content s t o p e f (too_long bytes here long a) (whole bytes' here' few b) =
    let same = ap length (same_bytes content bytes bytes' here here') in absurd (omega (arith, long, few, same))
one_file part file Next each content s t o p e f (whole bytes here few a) (not_held none b) = absurd (cc)
one_file part file Next each content s t o p e f (whole bytes here few a) (too_long bytes' here' long b) =
    let same = ap length (same_bytes content bytes bytes' here here') in absurd (omega (arith, long, few, same))
one_file part file Next each content s t o p e f (whole bytes here few a) (whole bytes' here' few' b) =
    each bytes s t o p e f a (subst (λ x. Next x t p f) (same_bytes content bytes' bytes here' here) b)

pub one_reading : (part : List ℕ → List ℕ) (files : List File) (Next : List (List ℕ) → Answer) → ((found : List (List ℕ)) → IsOneIn part (Next found)) → (contents : Contents) → IsOneIn part (AreRead files contents Next)
one_reading part [] Next each contents s t o p e f a b = each [] s t o p e f a b
one_reading part (file ∷ files) Next each [] s t o p e f a b = absurd a
one_reading part (file ∷ files) Next each (content ∷ contents) s t o p e f a b =
    one_file part file (λ bytes. AreRead files contents (λ found. Next (bytes ∷ found))) (λ bytes. one_reading part files (λ found. Next (bytes ∷ found)) (λ found. each (bytes ∷ found)) contents) content s t o p e f a b

-- No status that neither the files' own refusals nor what comes after them have.

pub files_lack : (status : Status) (out err : List ℕ) → ¬ (status ≡ ReadFault) → ¬ (status ≡ LimitReached) → (files : List File) (Next : List (List ℕ) → Answer) → ((found : List (List ℕ)) → Next found status out err → ⊥) → (contents : Contents) → AreRead files contents Next status out err → ⊥
files_lack status out err read limit [] Next each contents a = each [] a
files_lack status out err read limit (file ∷ files) Next each [] a = a
files_lack status out err read limit (file ∷ files) Next each (content ∷ contents) (not_held is a) = read a.status_is
files_lack status out err read limit (file ∷ files) Next each (content ∷ contents) (too_long bytes is long a) = limit a.status_is
files_lack status out err read limit (file ∷ files) Next each (content ∷ contents) (whole bytes is few a) = files_lack status out err read limit files (λ found. Next (bytes ∷ found)) (λ found. each (bytes ∷ found)) contents a

-- How many files are read: none after one that is refused, and the next ones after one that is read whole.

none_after : (file : File) (content : Option (List ℕ)) (files : List File) (contents : Contents) (s : Status) (o e : List ℕ) → IsFileRead file content (λ _. Never) s o e → reads_in (file ∷ files) (content ∷ contents) ≡ 1
none_after file content files contents s o e (not_held none a) = rw none refl
none_after file content files contents s o e (too_long bytes here long a) = rw here (grind (arith, nat_tests))
none_after file content files contents s o e (whole bytes here few a) = absurd a

more_after : (file : File) (bytes : List ℕ) (files : List File) (contents : Contents) → length bytes ≤ file.most → reads_in (file ∷ files) (Some bytes ∷ contents) ≡ suc (reads_in files contents)
more_after file bytes files contents few = grind (arith, nat_tests)

-- Files that were read whole.

pub record IsWhole (held : Held) (files : List File) (Next : List (List ℕ) → Answer) (s : Status) (o e : List ℕ) : Type 0 where
  pub contents : Contents
  pub hold : HoldEach held files contents
  pub answer : AreRead files contents Next s o e
  pub count : reads_in files contents ≡ length files

pub all_whole : (held : Held) (files : List File) (found : List (List ℕ)) (Next : List (List ℕ) → Answer) (s : Status) (o e : List ℕ) → WereRead held files found → Next found s o e → IsWhole held files Next s o e
all_whole held [] [] Next s o e were a = record { contents = []; hold = tt; answer = a; count = refl }
all_whole held [] (bytes ∷ found) Next s o e were a = absurd were
all_whole held (file ∷ files) [] Next s o e were a = absurd were
all_whole held (file ∷ files) (bytes ∷ found) Next s o e were a =
    let rest = all_whole held files found (λ more. Next (bytes ∷ more)) s o e were.1 a in
    record {
      contents = Some bytes ∷ rest.contents;
      hold = (were.0.0, rest.hold);
      answer = whole bytes refl were.0.1 rest.answer;
      count = more_after file bytes files rest.contents were.0.1 ∙ ap suc rest.count;
    }

-- The first file that wasn't read.

-- contents that files hold, where they are told, or some bytes
some_content : (held : Held) (name : List ℕ) → (content : Option (List ℕ)) × Holds held name content
some_content (Some contents_of) name = (contents_of name, refl)
some_content None name = (Some [], refl)

some_contents : (held : Held) (files : List File) → (contents : Contents) × HoldEach held files contents
some_contents held [] = ([], tt)
some_contents held (file ∷ files) =
    let one = some_content held file.name in
    let rest = some_contents held files in
    (one.0 ∷ rest.0, (one.1, rest.1))

pub record IsCutOff (held : Held) (files : List File) (place : ℕ) (Next : List (List ℕ) → Answer) (s : Status) (o e : List ℕ) : Type 0 where
  pub contents : Contents
  pub hold : HoldEach held files contents
  pub answer : AreRead files contents Next s o e
  pub count : reads_in files contents ≡ suc place

grows_file : (file : File) (content : Option (List ℕ)) → Grows (IsFileRead file content)
grows_file file content A B s o e more (not_held none a) = not_held none a
grows_file file content A B s o e more (too_long bytes here long a) = too_long bytes here long a
grows_file file content A B s o e more (whole bytes here few a) = whole bytes here few (more bytes a)

pub cut_off : (held : Held) (files : List File) (place : ℕ) (file : File) (found : List (List ℕ)) (content : Option (List ℕ)) (Next : List (List ℕ) → Answer) (s : Status) (o e : List ℕ) → slice_get files place ≡ Some file → WereRead held (take place files) found → Holds held file.name content → IsFileRead file content (λ _. Never) s o e → IsCutOff held files place Next s o e
cut_off held [] place file found content Next s o e there were holds a = absurd (cc)
cut_off held (x ∷ files) zero file found content Next s o e there were holds a =
    let same : x ≡ file = cc in
    let rest = some_contents held files in
    record {
      contents = content ∷ rest.0;
      hold = (subst (λ f. Holds held f.name content) (sym same) holds, rest.1);
      answer = grows_file x content (λ _. Never) (λ bytes. AreRead files rest.0 (λ more. Next (bytes ∷ more))) s o e (λ bytes no. absurd no) (subst (λ f. IsFileRead f content (λ _. Never) s o e) (sym same) a);
      count = none_after x content files rest.0 s o e (subst (λ f. IsFileRead f content (λ _. Never) s o e) (sym same) a);
    }
cut_off held (x ∷ files) (suc place) file [] content Next s o e there were holds a = absurd were
cut_off held (x ∷ files) (suc place) file (bytes ∷ found) content Next s o e there were holds a =
    let rest = cut_off held files place file found content (λ more. Next (bytes ∷ more)) s o e there were.1 holds a in
    record {
      contents = Some bytes ∷ rest.contents;
      hold = (were.0.0, rest.hold);
      answer = whole bytes refl were.0.1 rest.answer;
      count = more_after x bytes files rest.contents were.0.1 ∙ ap suc rest.count;
    }

-- the file at a place has the name at that place
pub name_there : (files : List File) (place : ℕ) (file : File) → slice_get files place ≡ Some file → slice_get (map (λ f. f.name) files) place ≡ Some file.name
name_there [] place file there = absurd (cc)
name_there (x ∷ files) zero file there = let same : x ≡ file = cc in ap (λ (f : File). Some f.name) same
name_there (x ∷ files) (suc place) file there = name_there files place file there
