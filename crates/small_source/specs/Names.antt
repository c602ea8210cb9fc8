-- The words of a source, and which of them may name something.
use Rattle.std.specs.Prelude.{ℕ, Bool, false, not, ◌&&◌, ◌||◌, ◌==◌, nat_le, List, [], ◌∷◌, codes, bytes_eq}
use Rattle.std.specs.List.{list_any, list_all}
use Rattle.simplicityhl.specs.Grammar as grammar
use Rattle.hl_rules.specs.Names.{variable_words, function_words, main_name}

-- a space, a tab, a carriage return or a line feed
abbrev pub is_blank : ℕ → Bool
is_blank c = c == 32 || (c == 9 || (c == 13 || c == 10))

-- a byte with which a name may begin: an ASCII letter or `_`
abbrev pub is_name_start : ℕ → Bool
is_name_start c = nat_le 65 c && nat_le c 90 || (nat_le 97 c && nat_le c 122 || c == 95)

-- a byte of a word: an ASCII letter, a digit or `_`
abbrev pub is_word_byte : ℕ → Bool
is_word_byte c = is_name_start c || nat_le 48 c && nat_le c 57

-- the words that name nothing: the language's, and the pattern `_`
abbrev pub keywords : List (List ℕ)
keywords = codes "_" ∷ grammar.keywords

-- whether a word is one of a list
abbrev pub is_among : List (List ℕ) → List ℕ → Bool
is_among words word = list_any (λ other. bytes_eq other word) words

-- whether a word is a name: it begins as one, goes on with bytes of a word, and is no keyword
abbrev pub is_name : List ℕ → Bool
is_name [] = false
is_name (c ∷ more) = is_name_start c && (list_all is_word_byte more && not (is_among keywords (c ∷ more)))

-- whether a word may name a variable
abbrev pub names_variable : List ℕ → Bool
names_variable word = is_name word && not (is_among variable_words word)

-- whether a word may name a function that is asked for by its name and isn't `main`
abbrev pub names_function : List ℕ → Bool
names_function word = is_name word && (not (is_among function_words word) && not (bytes_eq word main_name))
