-- Words `key=value`: which key a word is for, and whether its value has the key's form.
use Rattle.std.specs.Prelude.{ℕ, Bool, true, false, not, ◌&&◌, ◌==◌, nat_lt, List, [], ◌∷◌, ◌++◌, length, codes, bytes_eq, Option, Some, None, is_some, if◌then◌else◌}
use Rattle.std.specs.List.{list_any, position_or_len, before_first, after_first}
use Rattle.std.specs.Option.{option_map_or}
use Rattle.small_source.specs.Names.{is_name}
use Rattle.command_words.specs.Editions.{is_edition}
use Rattle.command_words.specs.declared.key.Key.{Key}
use Rattle.command_words.specs.declared.key.Key.TheVariants.{Function, Args, Witness, Edition, Input}

abbrev pub name_of : Key → List ℕ
name_of Function = codes "fn"
name_of Args = codes "args"
name_of Witness = codes "wit"
name_of Edition = codes "edition"
name_of Input = codes "input"

abbrev pub is_empty : List ℕ → Bool
is_empty [] = true
is_empty (byte ∷ bytes) = false

-- a function has a name, a file a name that isn't empty, an edition is 1 or 2, and a value may be any text
abbrev pub takes : Key → List ℕ → Bool
takes Function value = is_name value
takes Args value = not (is_empty value)
takes Witness value = not (is_empty value)
takes Edition value = is_edition value
takes Input value = true

abbrev pub is_equals : ℕ → Bool
is_equals byte = byte == 61

abbrev pub has_equals : List ℕ → Bool
has_equals word = nat_lt (position_or_len is_equals word) (length word)

-- what a word gives a key: where the key's name stands before its first `=`, what stands after that
abbrev pub given : Key → List ℕ → Option (List ℕ)
given key word = if has_equals word && bytes_eq (before_first is_equals word) (name_of key) then Some (after_first is_equals word) else None

-- the first value that words give a key
abbrev pub or_else : Option (List ℕ) → Option (List ℕ) → Option (List ℕ)
or_else (Some value) other = Some value
or_else None other = other

abbrev pub value_of : Key → List (List ℕ) → Option (List ℕ)
value_of key [] = None
value_of key (word ∷ words) = or_else (given key word) (value_of key words)

-- a word fits after others for one of these keys: it gives the key a value of the key's form, and none of the others gives it one
abbrev pub fits_key : List (List ℕ) → List ℕ → Key → Bool
fits_key before word key = option_map_or (takes key) (given key word) false && not (is_some (value_of key before))

abbrev pub fits : List Key → List (List ℕ) → List ℕ → Bool
fits keys before word = list_any (fits_key before word) keys

-- the place of the first word that doesn't fit after those before it
abbrev pub misfit_after : List Key → List (List ℕ) → List (List ℕ) → Option ℕ
misfit_after keys before [] = None
misfit_after keys before (word ∷ words) = if fits keys before word then misfit_after keys (before ++ word ∷ []) words else Some (length before)

abbrev pub first_misfit : List Key → List (List ℕ) → Option ℕ
first_misfit keys words = misfit_after keys [] words
