-- The words of a text are ASCII.
use Rattle.std.proofs.Common.{◌≡◌, refl, ℕ, zero, suc, ◌<◌, Bool, true, false, ◌&&◌, List, [], ◌∷◌, take, arith, lit<}
use Rattle.std.specs.Prelude.{IsUtf8, IsAscii}
use Rattle.std.specs.List.{list_all, prefix_len}
use Rattle.std.proofs.lemmas.Str.{IsUtf8-from_ascii}
use Rattle.std.proofs.lemmas.Bool.Decides.{nat_tests}
use Rattle.simplicityhl.specs.Tokens.{is_word_byte}
use Rattle.simplicityhl.proofs.Fronts.{run_passes}

word_byte_ascii : (c : ℕ) → is_word_byte c ≡ true → c < 128
word_byte_ascii c e = grind (arith, nat_tests)

first_passes : (a b : Bool) → (a && b) ≡ true → a ≡ true
first_passes true b e = refl
first_passes false b e = cc

rest_passes : (a b : Bool) → (a && b) ≡ true → b ≡ true
rest_passes true b e = e
rest_passes false b e = cc

word_ascii : (word : List ℕ) → list_all is_word_byte word ≡ true → IsAscii word
word_ascii [] e i = lit< tt
word_ascii (c ∷ z) e zero = word_byte_ascii c (first_passes (is_word_byte c) (list_all is_word_byte z) e)
word_ascii (c ∷ z) e (suc i) = word_ascii z (rest_passes (is_word_byte c) (list_all is_word_byte z) e) i

-- the word at the front of a text is UTF-8 by itself
pub word_utf8 : (text : List ℕ) → IsUtf8 (take (prefix_len is_word_byte text) text)
word_utf8 text = IsUtf8-from_ascii (take (prefix_len is_word_byte text) text) (word_ascii (take (prefix_len is_word_byte text) text) (run_passes is_word_byte text))
