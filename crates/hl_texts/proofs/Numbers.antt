-- The numbers that printed numbers spell.
use Rattle.std.proofs.Common.{◌≡◌, ℕ, zero, suc, ◌+◌, ◌-◌, ◌*◌, ◌/◌, ◌%◌, ◌^◌, ◌<◌, ◌≤◌, Bool, true, false, not, ◌&&◌, nat_lt, nat_eq, List, [], ◌∷◌, ◌++◌, refl, sym, ap, ◌∙◌, arith}
use Rattle.std.proofs.lemmas.Bool.{lt-ltb, le-ltb, eqb-true}
use Rattle.std.proofs.lemmas.Bool.Decides.{nat_tests}
use Rattle.std.proofs.lemmas.Fmt.{decimal_is_IsNumeral_wide}
use Rattle.std.proofs.lemmas.Nat.{pow-add, pow_pos, mod-mul-add}
use Rattle.std.proofs.Math.Nat.{div-add-mod, mod-eq_of_lt, mod-lt, mul-le-mul_right}
use Rattle.std.proofs.lemmas.Str.Parse.{digit_from_value}
use Rattle.std.specs.Char.{digit_value, is_ascii_digit, is_ascii_hexdigit}
use Rattle.std.specs.Fmt.{decimal}
use Rattle.std.specs.List.{list_all, list_any}
use Rattle.std.specs.Prelude.{codes, bytes_eq, drop, filter, fold, length}
use Rattle.std.specs.Str.Parse.{AllDigits, digits_value_after}
use Rattle.hl_syntax.specs.declared.token.TokenKind.TheVariants as kind
use Rattle.simplicityhl.specs.Tokens.{are_digits, decimal_value, is_word_byte, begins_with_digit, is_hexadecimal, word_reading, number_reading, token}
use Rattle.hl_meaning.specs.Literals.{based_value, literal_value}
use Rattle.hl_values.specs.Printed.{hexadecimal, hexadecimal_digit}

-- a word that is a literal for a number
pub record Spells (word : List ℕ) (n : ℕ) : Type 0 where
  pub first : ℕ
  pub others : List ℕ
  pub begins : word ≡ first ∷ others
  pub digit : is_ascii_digit first ≡ true
  pub in_word : list_all is_word_byte others ≡ true
  pub read : word_reading (first ∷ others) ≡ token (kind.Literal (first ∷ others))
  pub spelled : literal_value (first ∷ others) ≡ n

both : (a b : Bool) → a ≡ true → b ≡ true → (a && b) ≡ true
both true b h g = g
both false b h g = absurd (cc)

-- Decimal.

record Digit (c : ℕ) : Type 0 where
  digit : is_ascii_digit c ≡ true
  value : c - 48 ≡ digit_value c
  in_word : is_word_byte c ≡ true
  other : nat_eq c 95 ≡ false

digit_is : (c : ℕ) → digit_value c < 10 → Digit c
digit_is c h =
    let r = digit_from_value c h in
    let low = le-ltb c 48 (omega arith) in
    let high = lt-ltb c 58 (omega arith) in
    record { digit = grind (arith, nat_tests); value = rw (low, high) refl; in_word = grind (arith, nat_tests); other = grind (arith, nat_tests) }

all_digits : (ds : List ℕ) → AllDigits 10 ds → (list_all is_word_byte ds ≡ true) × (are_digits is_ascii_digit ds ≡ true)
all_digits [] h = (refl, refl)
all_digits (c ∷ ds) h =
    let d = digit_is c h.0 in
    let rest = all_digits ds h.1 in
    (rw d.in_word rest.0, rw d.digit rest.1)

value_after : (n : ℕ) (ds : List ℕ) → AllDigits 10 ds → fold (λ n c. n * 10 + (c - 48)) n (filter is_ascii_digit ds) ≡ digits_value_after 10 n ds
value_after n [] h = refl
value_after n (c ∷ ds) h =
    let d = digit_is c h.0 in
    let e : n * 10 + (c - 48) ≡ n * 10 + digit_value c = ap (λ x. n * 10 + x) d.value in
    rw d.digit (ap (λ m. fold (λ n c. n * 10 + (c - 48)) m (filter is_ascii_digit ds)) e ∙ value_after (n * 10 + digit_value c) ds h.1)

read_number : (word : List ℕ) → bytes_eq word (codes "_") ≡ false → begins_with_digit word ≡ true → word_reading word ≡ number_reading word
read_number word other digit = rw (other, digit) refl

read_decimal : (word : List ℕ) → are_digits is_ascii_digit word ≡ true → nat_lt (decimal_value word) (2 ^ 128) ≡ true → number_reading word ≡ token (kind.Literal word)
read_decimal word all less = rw (all, less) refl

read_hexadecimal : (word : List ℕ) → are_digits is_ascii_digit word ≡ false → is_hexadecimal word ≡ true → number_reading word ≡ token (kind.Literal word)
read_hexadecimal word some all = rw (some, all) refl

spelled_decimal : (word : List ℕ) → are_digits is_ascii_digit word ≡ true → literal_value word ≡ decimal_value word
spelled_decimal word all = rw all refl

spelled_hexadecimal : (word : List ℕ) → are_digits is_ascii_digit word ≡ false → is_hexadecimal word ≡ true → literal_value word ≡ based_value 16 (drop 2 word)
spelled_hexadecimal word some all = rw (some, all) refl

decimal_word : (word : List ℕ) (n : ℕ) → n < 2 ^ 128 → 0 < length word → AllDigits 10 word → digits_value_after 10 0 word ≡ n → Spells word n
decimal_word [] n small some all value = absurd (omega arith)
decimal_word (c ∷ ds) n small some all value =
    let d = digit_is c all.0 in
    let parts = all_digits (c ∷ ds) all in
    let rest = all_digits ds all.1 in
    let spelled : decimal_value (c ∷ ds) ≡ n = value_after 0 (c ∷ ds) all ∙ value in
    let less : nat_lt (decimal_value (c ∷ ds)) (2 ^ 128) ≡ true = lt-ltb _ _ (omega (arith, spelled, small)) in
    record {
      first = c;
      others = ds;
      begins = refl;
      digit = d.digit;
      in_word = rest.0;
      read = read_number (c ∷ ds) (rw d.other refl) d.digit ∙ read_decimal (c ∷ ds) parts.1 less;
      spelled = spelled_decimal (c ∷ ds) parts.1 ∙ spelled;
    }

pub decimal_spells : (n : ℕ) → n < 2 ^ 128 → Spells (decimal n) n
decimal_spells n small = let d = decimal_is_IsNumeral_wide n (omega arith) in decimal_word (decimal n) n small d.0.0 d.0.1 d.1

-- Hexadecimal.

abbrev all_below : (ℕ → Bool) → ℕ → Bool
all_below test zero = true
all_below test (suc n) = test n && all_below test n

both_true : (a b : Bool) → (a && b) ≡ true → (a ≡ true) × (b ≡ true)
both_true true b h = (refl, h)
both_true false b h = cc

one_below : (test : ℕ → Bool) (n d : ℕ) → all_below test n ≡ true → d < n → test d ≡ true
one_below test zero d h less = absurd (omega arith)
one_below test (suc n) d h less =
    let b = both_true (test n) (all_below test n) h in
    elim (nat_eq d n) as (λ t. nat_eq d n ≡ t → test d ≡ true) [
      | true ↦ λ e. rw (eqb-true d n e) b.0
      | false ↦ λ e. one_below test n d b.1 (grind (arith, nat_tests))
    ] refl

abbrev is_fine : ℕ → Bool
is_fine d = is_ascii_hexdigit (hexadecimal_digit d) && (is_word_byte (hexadecimal_digit d) && (not (nat_eq (hexadecimal_digit d) 95) && nat_eq (digit_value (hexadecimal_digit d)) d))

record HexadecimalDigit (d : ℕ) : Type 0 where
  digit : is_ascii_hexdigit (hexadecimal_digit d) ≡ true
  in_word : is_word_byte (hexadecimal_digit d) ≡ true
  other : not (nat_eq (hexadecimal_digit d) 95) ≡ true
  value : digit_value (hexadecimal_digit d) ≡ d

hexadecimal_digit_is : (d : ℕ) → d < 16 → HexadecimalDigit d
hexadecimal_digit_is d less =
    let h : is_fine d ≡ true = one_below is_fine 16 d refl less in
    let a = both_true (is_ascii_hexdigit (hexadecimal_digit d)) _ h in
    let b = both_true (is_word_byte (hexadecimal_digit d)) _ a.1 in
    let c = both_true (not (nat_eq (hexadecimal_digit d) 95)) _ b.1 in
    record { digit = a.0; in_word = b.0; other = c.0; value = eqb-true _ _ c.1 }

digits_are : (k n : ℕ) → (list_all is_word_byte (hexadecimal k n) ≡ true) × (are_digits is_ascii_hexdigit (hexadecimal k n) ≡ true)
digits_are zero n = (refl, refl)
digits_are (suc k) n =
    let d = hexadecimal_digit_is (n / 2 ^ (4 * k) % 16) (omega arith) in
    let rest = digits_are k n in
    (both _ _ d.in_word rest.0, rw d.digit rest.1)

abbrev from : ℕ → List ℕ → ℕ
from value digits = fold (λ n c. n * 16 + digit_value c) value (filter (λ c. not (nat_eq c 95)) digits)

sixteen_times : (n p : ℕ) → 0 < p → n % (16 * p) ≡ n / p % 16 * p + n % p
sixteen_times n p some =
    let q : ℕ = n / p in
    let whole : n ≡ q / 16 * (16 * p) + (q % 16 * p + n % p) = split ∙ regroup (q / 16) (q % 16) p (n % p) in
    let less : q % 16 * p + n % p < 16 * p = below (q % 16) p (n % p) (omega arith) (mod-lt n some) in
    ap (λ m. m % (16 * p)) whole ∙ mod-mul-add (q / 16) (16 * p) (q % 16 * p + n % p) less
  where
    split : n ≡ (n / p / 16 * 16 + n / p % 16) * p + n % p
    split =
        let inner : n / p / 16 * 16 + n / p % 16 ≡ n / p = omega arith in
        sym (ap (λ m. m * p + n % p) inner ∙ div_mod)
      where
        div_mod : n / p * p + n % p ≡ n
        div_mod = grind (arith, div-add-mod n p)

    regroup : (a b p r : ℕ) → (a * 16 + b) * p + r ≡ a * (16 * p) + (b * p + r)
    regroup a b p r = grind arith

    below : (b p r : ℕ) → b < 16 → r < p → b * p + r < 16 * p
    below b p r less small =
        let most : (b + 1) * p ≤ 16 * p = mul-le-mul_right p (omega arith) in
        let next : (b + 1) * p ≡ b * p + p = grind arith in
        omega (arith, most, next)

sixteenth : (n k : ℕ) → n % 2 ^ (4 * suc k) ≡ n / 2 ^ (4 * k) % 16 * 2 ^ (4 * k) + n % 2 ^ (4 * k)
sixteenth n k =
    let more : 4 * suc k ≡ 4 + 4 * k = omega arith in
    ap (λ m. n % m) (ap (λ m. 2 ^ m) more ∙ pow-add 2 4 (4 * k)) ∙ sixteen_times n (2 ^ (4 * k)) (pow_pos (4 * k))

spelled_from : (k n value : ℕ) → from value (hexadecimal k n) ≡ value * 2 ^ (4 * k) + n % 2 ^ (4 * k)
spelled_from zero n value = omega arith
spelled_from (suc k) n value =
    let d = hexadecimal_digit_is (n / 2 ^ (4 * k) % 16) (omega arith) in
    let other = d.other in
    let rest = spelled_from k n (value * 16 + n / 2 ^ (4 * k) % 16) in
    let more : 4 * suc k ≡ 4 + 4 * k = omega arith in
    let times : value * 2 ^ (4 * suc k) ≡ value * 16 * 2 ^ (4 * k) = ap (λ m. value * 2 ^ m) more ∙ ap (λ m. value * m) (pow-add 2 4 (4 * k)) ∙ regroup value (2 ^ (4 * k)) in
    let sum : (value * 16 + n / 2 ^ (4 * k) % 16) * 2 ^ (4 * k) + n % 2 ^ (4 * k) ≡ value * 2 ^ (4 * suc k) + n % 2 ^ (4 * suc k) =
    spread (value * 16) (n / 2 ^ (4 * k) % 16) (2 ^ (4 * k)) (n % 2 ^ (4 * k)) ∙ ap (λ m. m + (n / 2 ^ (4 * k) % 16 * 2 ^ (4 * k) + n % 2 ^ (4 * k))) (sym times) ∙ ap (λ m. value * 2 ^ (4 * suc k) + m) (sym (sixteenth n k)) in
    rw other (ap (λ m. from (value * 16 + m) (hexadecimal k n)) d.value ∙ rest ∙ sum)
  where
    regroup : (v p : ℕ) → v * (16 * p) ≡ v * 16 * p
    regroup v p = grind arith

    spread : (a b p r : ℕ) → (a + b) * p + r ≡ a * p + (b * p + r)
    spread a b p r = grind arith

some_digit : (k n : ℕ) → list_any is_ascii_hexdigit (hexadecimal (suc k) n) ≡ true
some_digit k n = let d = hexadecimal_digit_is (n / 2 ^ (4 * k) % 16) (omega arith) in rw d.digit refl

pub hexadecimal_spells : (k n : ℕ) → n < 2 ^ (4 * suc k) → Spells (codes "0x" ++ hexadecimal (suc k) n) n
hexadecimal_spells k n small =
    let are = digits_are (suc k) n in
    let all : is_hexadecimal (48 ∷ 120 ∷ hexadecimal (suc k) n) ≡ true = both _ _ are.1 (some_digit k n) in
    let value : based_value 16 (hexadecimal (suc k) n) ≡ n = spelled_from (suc k) n 0 ∙ omega (arith, mod-eq_of_lt small) in
    record {
      first = 48;
      others = 120 ∷ hexadecimal (suc k) n;
      begins = refl;
      digit = refl;
      in_word = are.0;
      read = read_number (48 ∷ 120 ∷ hexadecimal (suc k) n) refl refl ∙ read_hexadecimal (48 ∷ 120 ∷ hexadecimal (suc k) n) refl all;
      spelled = spelled_hexadecimal (48 ∷ 120 ∷ hexadecimal (suc k) n) refl all ∙ value;
    }
