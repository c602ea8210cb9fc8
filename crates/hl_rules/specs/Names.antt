-- Names that are reserved: no alias, no variable, no function may be declared with them.
use Rattle.std.specs.Prelude.{ℕ, Bool, List, [], ◌∷◌, codes, map}
use Rattle.simplicityhl.specs.Grammar.{is_among}
use Rattle.simplicityhl.specs.Written.{width_names}

-- the types of numbers
abbrev pub number_words : List (List ℕ)
number_words = map (λ entry. entry.0) width_names

-- for an alias: the types that have names of their own
abbrev pub alias_words : List (List ℕ)
alias_words = codes "bool" ∷ codes "List" ∷ codes "Option" ∷ codes "Either" ∷ number_words

-- for a variable: the values and sides that have names of their own
abbrev pub variable_words : List (List ℕ)
variable_words = codes "true" ∷ codes "false" ∷ codes "None" ∷ codes "Left" ∷ codes "Right" ∷ codes "Some" ∷ []

-- for a function: what is written as a call
abbrev pub function_words : List (List ℕ)
function_words =
    codes "Left" ∷ codes "Right" ∷ codes "Some" ∷ codes "unwrap" ∷ codes "unwrap_left" ∷ codes "unwrap_right" ∷ codes "is_none"
    ∷ codes "fold" ∷ codes "array_fold" ∷ codes "for_while" ∷ []

abbrev pub is_reserved : List (List ℕ) → List ℕ → Bool
is_reserved words name = is_among words name

-- the function that a program begins with
abbrev pub main_name : List ℕ
main_name = codes "main"
