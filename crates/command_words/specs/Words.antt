-- The words of a command: a verb, a file name that isn't empty, and words for keys that the verb has, in any order.
use Rattle.std.specs.Prelude.{ℕ, ◌+◌, List, [], ◌∷◌, Option, Some, None, unwrap_or, codes, bytes_eq, if◌then◌else◌, map, string_bytes}
use Rattle.std.specs.declared.string.String.{String}
use Rattle.command_words.specs.declared.key.Key.{Key}
use Rattle.command_words.specs.declared.key.Key.TheVariants.{Function, Args, Witness, Edition, Input}
use Rattle.command_words.specs.declared.edition.Edition as editions
use Rattle.command_words.specs.Editions.{edition_in}
use Rattle.command_words.specs.Keys.{first_misfit, value_of}

-- an evaluation that is asked for: the file of the source, the function, the edition, and what is named or given besides
pub record Evaluation : Type 0 where
  pub file : List ℕ
  pub function : List ℕ
  pub edition : editions.Edition
  pub args : Option (List ℕ)
  pub witness : Option (List ℕ)
  pub input : Option (List ℕ)

-- what the words ask for, or the index of the first that doesn't fit; a missing word has the index of the words' end
pub data Reading : Type 0 where
  BuildOf : (file function : List ℕ) → Reading
  EvalOf : (asked : Evaluation) → Reading
  Misfit : (index : ℕ) → Reading

-- `build` has the key of the function alone, which must be given
abbrev pub build_keys : List Key
build_keys = Function ∷ []

abbrev pub building : List ℕ → Option (List ℕ) → Reading
building file (Some function) = BuildOf file function
building file None = Misfit 2

abbrev pub build_reading : List ℕ → List (List ℕ) → Reading
build_reading file words = building file (value_of Function words)

abbrev pub eval_keys : List Key
eval_keys = Function ∷ Args ∷ Witness ∷ Edition ∷ Input ∷ []

-- the function is `main` and the edition the first where none is named
abbrev pub eval_reading : List ℕ → List (List ℕ) → Reading
eval_reading file words = EvalOf (record {
  file = file;
  function = unwrap_or (value_of Function words) (codes "main");
  edition = edition_in (value_of Edition words);
  args = value_of Args words;
  witness = value_of Witness words;
  input = value_of Input words;
})

-- what is asked for, unless a word after the file name doesn't fit
abbrev pub unless_misfit : Option ℕ → Reading → Reading
unless_misfit None asked = asked
unless_misfit (Some place) asked = Misfit (2 + place)

-- the words after the verb
abbrev pub command_reading : List Key → (List ℕ → List (List ℕ) → Reading) → List (List ℕ) → Reading
command_reading keys asked [] = Misfit 1
command_reading keys asked ([] ∷ words) = Misfit 1
command_reading keys asked ((byte ∷ bytes) ∷ words) = unless_misfit (first_misfit keys words) (asked (byte ∷ bytes) words)

abbrev pub reading : List (List ℕ) → Reading
reading [] = Misfit 0
reading (verb ∷ words) =
    if bytes_eq verb (codes "build") then command_reading build_keys build_reading words
    else if bytes_eq verb (codes "eval") then command_reading eval_keys eval_reading words
    else Misfit 0

-- the bytes of the words
abbrev pub texts : {A : Type 0} → List (String A) → List (List ℕ)
texts words = map string_bytes words
