-- What stands at the front of a text: its size, and what its bytes are.
use Rattle.std.proofs.Common.{◌≡◌, refl, sym, ◌∙◌, ap, subst, ℕ, suc, ◌+◌, ◌<◌, ◌≤◌, Bool, true, false, cond, not, List, [], ◌∷◌, ◌++◌, length, take, drop, arith, Option, Some, None, nat_eq, nat_lt, lit<, length-append, append_assoc}
use Rattle.std.specs.Prelude.{codes, option_map, find, ◌==◌, ◌^◌, ◌||◌, take_while, bytes_eq}
use Rattle.std.specs.Char.{is_ascii_digit}
use Rattle.std.specs.List.{list_all, starts_with, prefix_len}
use Rattle.std.proofs.lemmas.List.{drop_at, take_at, take-append-drop}
use Rattle.std.proofs.lemmas.List.Sums.{prefix_len-le-length}
use Rattle.std.proofs.lemmas.Bool.{eqb-true}
use Rattle.std.proofs.lemmas.Bool.Decides.{Decides-eqb}
use Rattle.std.proofs.lemmas.Slice.Eq.{starts_is, bytes_eq-Decides}
use Rattle.hl_syntax.specs.declared.token.TokenKind.{TokenKind}
use Rattle.hl_syntax.specs.declared.token.TokenKind.TheVariants as kind
use Rattle.hl_syntax.specs.declared.token.Symbol.{Symbol}
use Rattle.hl_syntax.specs.declared.token.Symbol.TheVariants as symbol
use Rattle.simplicityhl.specs.Tokens.{Reading, Front, Fault, dropped, token, fault, bad_character, literal_too_large, is_white_space, is_no_line_feed, is_word_byte, closer_end, block_comment, word_reading, number_reading, begins_with_digit, are_digits, decimal_value, is_hexadecimal, is_binary, symbol_text, symbols, symbol_of, symbol_front, front}
use Rattle.simplicityhl.specs.Cover.{token_text, IsAtLineEnd, Skips, nothing, white_space, line_comment, block_comment as skip_block}

-- a fact of a choice, from the fact at each side
pub choose : {A : Type 0} (P : A → Type 0) (b : Bool) (x y : A) → (b ≡ true → P x) → (b ≡ false → P y) → P (cond b x y)
choose P true x y at_true at_false = at_true refl
choose P false x y at_true at_false = at_false refl

-- what a reading of the first n bytes of a text says of them
abbrev pub Says : Reading → ℕ → List ℕ → Type 0
Says dropped n text = (0 < n) × (n ≤ length text) × Skips text (drop n text)
Says (token k) n text = (0 < n) × (n ≤ length text) × (take n text ≡ token_text k)
Says (fault f) n text = Unit {0}

-- a text that begins with other bytes is these and a rest
pub begins : (text needle : List ℕ) → starts_with nat_eq text needle ≡ true → text ≡ needle ++ drop (length needle) text
begins text needle e = (starts_is Decides-eqb text needle (starts_with nat_eq text needle) refl).0 e

-- the first `*/` of a text, and what lies before and after it
record Closes (text : List ℕ) (n : ℕ) : Type 0 where
  body : List ℕ
  rest : List ℕ
  whole : text ≡ body ++ (codes "*/" ++ rest)
  first : closer_end (body ++ codes "*") ≡ None
  size : n ≡ length body + 2

-- the first two bytes do not tell a `*` at the end from a `*/`
starts_alike : (c : ℕ) (body rest : List ℕ) → starts_with nat_eq (c ∷ (body ++ (codes "*/" ++ rest))) (codes "*/") ≡ starts_with nat_eq (c ∷ (body ++ codes "*")) (codes "*/")
starts_alike c [] rest = refl
starts_alike c (d ∷ body) rest = refl

still_open : (c : ℕ) (text : List ℕ) → starts_with nat_eq (c ∷ text) (codes "*/") ≡ false → closer_end text ≡ None → closer_end (c ∷ text) ≡ None
still_open c text e none = rw e (rw none refl)

closes_later : (c n : ℕ) (z : List ℕ) → starts_with nat_eq (c ∷ z) (codes "*/") ≡ false → Closes z n → Closes (c ∷ z) (suc n)
closes_later c n z e later = record {
  body = c ∷ later.body;
  rest = later.rest;
  whole = ap (λ x. c ∷ x) later.whole;
  first = still_open c (later.body ++ codes "*")
      (sym (starts_alike c later.body later.rest) ∙ subst (λ (x : List ℕ). starts_with nat_eq (c ∷ x) (codes "*/") ≡ false) later.whole e) later.first;
  size = omega (arith, later.size);
}

closes_now : (text : List ℕ) → starts_with nat_eq text (codes "*/") ≡ true → Closes text 2
closes_now text e = record {
  body = [];
  rest = drop 2 text;
  whole = begins text (codes "*/") e;
  first = refl;
  size = refl;
}

closer_in : (c : ℕ) (z : List ℕ) (n : ℕ) (o : Option ℕ) → ((m : ℕ) → o ≡ Some m → Closes z m) → starts_with nat_eq (c ∷ z) (codes "*/") ≡ false → option_map (λ m. suc m) o ≡ Some n → Closes (c ∷ z) n
closer_in c z n None later e f = cc
closer_in c z n (Some m) later e f = let same : suc m ≡ n = cc in subst (λ (k : ℕ). Closes (c ∷ z) k) same (closes_later c m z e (later m refl))

closer_by : (c : ℕ) (z : List ℕ) (n : ℕ) (b : Bool) → ((m : ℕ) → closer_end z ≡ Some m → Closes z m) → starts_with nat_eq (c ∷ z) (codes "*/") ≡ b → cond b (Some 2) (option_map (λ m. suc m) (closer_end z)) ≡ Some n → Closes (c ∷ z) n
closer_by c z n true later e f = let same : 2 ≡ n = cc in subst (λ (k : ℕ). Closes (c ∷ z) k) same (closes_now (c ∷ z) e)
closer_by c z n false later e f = closer_in c z n (closer_end z) later e f

found_closer : (text : List ℕ) (n : ℕ) → closer_end text ≡ Some n → Closes text n
found_closer [] n e = cc
found_closer (c ∷ z) n e = closer_by c z n (starts_with nat_eq (c ∷ z) (codes "*/")) (λ m. found_closer z m) refl e

not-false : (b : Bool) → not b ≡ false → b ≡ true
not-false true e = refl
not-false false e = cc

-- the longest front that passes a test passes it
pub run_passes : (p : ℕ → Bool) (xs : List ℕ) → list_all p (take (prefix_len p xs) xs) ≡ true
run_passes p [] = refl
run_passes p (x ∷ xs) = choose (λ n. list_all p (take n (x ∷ xs)) ≡ true) (p x) (1 + prefix_len p xs) 0
    (λ e. let same : suc (prefix_len p xs) ≡ 1 + prefix_len p xs = omega arith in
    subst (λ (n : ℕ). list_all p (take n (x ∷ xs)) ≡ true) same (rw e (run_passes p xs)))
    (λ e. refl)

-- the bytes without a line feed end where a line ends
line_ends : (xs : List ℕ) → IsAtLineEnd (drop (prefix_len is_no_line_feed xs) xs)
line_ends [] = tt
line_ends (x ∷ xs) = choose (λ n. IsAtLineEnd (drop n (x ∷ xs))) (is_no_line_feed x) (1 + prefix_len is_no_line_feed xs) 0
    (λ e. let same : suc (prefix_len is_no_line_feed xs) ≡ 1 + prefix_len is_no_line_feed xs = omega arith in
    subst (λ (n : ℕ). IsAtLineEnd (drop n (x ∷ xs))) same (line_ends xs))
    (λ e. eqb-true x 10 (not-false (x == 10) e))

line_skipped : (w : List ℕ) → Says dropped (prefix_len is_no_line_feed (47 ∷ 47 ∷ w)) (47 ∷ 47 ∷ w)
line_skipped w =
    let k = prefix_len is_no_line_feed w in
    let same : suc (suc k) ≡ 1 + (1 + k) = omega arith in
    let short : k ≤ length w = prefix_len-le-length is_no_line_feed w in
    let skipped : Skips (47 ∷ 47 ∷ w) (drop k w) =
    line_comment (47 ∷ 47 ∷ w) (take k w) (drop k w) (drop k w) (ap (λ (x : List ℕ). 47 ∷ 47 ∷ x) (sym (take-append-drop k w)))
    (run_passes is_no_line_feed w) (line_ends w) (nothing (drop k w)) in
    subst (λ (n : ℕ). Says dropped n (47 ∷ 47 ∷ w)) same (omega arith, omega arith, skipped)

line_says : (text : List ℕ) → starts_with nat_eq text (codes "//") ≡ true → Says dropped (prefix_len is_no_line_feed text) text
line_says text e = subst (λ (x : List ℕ). Says dropped (prefix_len is_no_line_feed x) x) (sym (begins text (codes "//") e)) (line_skipped (drop 2 text))

-- what a front says of the text that it stands at
abbrev pub IsSound : List ℕ → Front → Type 0
IsSound text f = Says f.reading f.size text

block_skipped : (w : List ℕ) (n : ℕ) → Closes w n → Says dropped (2 + n) (47 ∷ 42 ∷ w)
block_skipped w n c =
    let same : suc (suc n) ≡ 2 + n = omega arith in
    let shape : w ≡ (c.body ++ codes "*/") ++ c.rest = c.whole ∙ sym (append_assoc c.body (codes "*/") c.rest) in
    let long : length (c.body ++ codes "*/") ≡ n = length-append c.body (codes "*/") ∙ sym c.size in
    let left : c.rest ≡ drop n w = sym (rw shape (drop_at (c.body ++ codes "*/") c.rest n long)) in
    let lengths : length w ≡ length (c.body ++ codes "*/") + length c.rest = rw shape (length-append (c.body ++ codes "*/") c.rest) in
    let skipped : Skips (47 ∷ 42 ∷ w) c.rest =
    skip_block (47 ∷ 42 ∷ w) c.body c.rest c.rest (ap (λ (x : List ℕ). 47 ∷ 42 ∷ x) c.whole) c.first (nothing c.rest) in
    subst (λ (k : ℕ). Says dropped k (47 ∷ 42 ∷ w)) same
    (omega arith, omega arith, subst (λ (x : List ℕ). Skips (47 ∷ 42 ∷ w) x) left skipped)

block_by : (w : List ℕ) (o : Option ℕ) → closer_end w ≡ o → IsSound (47 ∷ 42 ∷ w) (block_comment (47 ∷ 42 ∷ w) o)
block_by w None e = tt
block_by w (Some n) e = block_skipped w n (found_closer w n e)

block_says : (text : List ℕ) → starts_with nat_eq text (codes "/*") ≡ true → IsSound text (block_comment text (closer_end (drop 2 text)))
block_says text e = subst (λ (x : List ℕ). IsSound x (block_comment x (closer_end (drop 2 x)))) (sym (begins text (codes "/*") e))
    (block_by (drop 2 text) (closer_end (drop 2 text)) refl)

-- what is said of the reading of a word
WordSays : List ℕ → Reading → Type 0
WordSays word dropped = ⊥
WordSays word (token k) = word ≡ token_text k
WordSays word (fault f) = Unit {0}

says_token : (word : List ℕ) (k : TokenKind) → word ≡ token_text k → WordSays word (token k)
unfolding WordSays
says_token word k e = e

says_fault : (word : List ℕ) (f : Fault) → WordSays word (fault f)
unfolding WordSays
says_fault word f = tt

word_choice : (word : List ℕ) (b : Bool) (r s : Reading) → (b ≡ true → WordSays word r) → (b ≡ false → WordSays word s) → WordSays word (cond b r s)
word_choice word b r s = choose (WordSays word) b r s

number_says : (word : List ℕ) → WordSays word (number_reading word)
number_says word = word_choice word (are_digits is_ascii_digit word) _ _
    (λ _. word_choice word (nat_lt (decimal_value word) (2 ^ 128)) _ _ (λ _. says_token word (kind.Literal word) refl) (λ _. says_fault word literal_too_large))
    (λ _. word_choice word (is_hexadecimal word || is_binary word) _ _ (λ _. says_token word (kind.Literal word) refl) (λ _. says_fault word bad_character))

word_says : (word : List ℕ) → WordSays word (word_reading word)
word_says word = word_choice word (bytes_eq word (codes "_")) _ _
    (λ e. says_token word (kind.Symbol symbol.Underscore) ((bytes_eq-Decides word (codes "_")).0 e))
    (λ _. word_choice word (begins_with_digit word) _ _ (λ _. number_says word) (λ _. says_token word (kind.Name word) refl))

word_sound : (text : List ℕ) (n : ℕ) (r : Reading) → 0 < n → n ≤ length text → WordSays (take n text) r → Says r n text
unfolding WordSays
word_sound text n dropped more short w = absurd w
word_sound text n (token k) more short w = (more, short, w)
word_sound text n (fault f) more short w = tt

word_front_says : (c : ℕ) (z : List ℕ) → is_word_byte c ≡ true → Says (word_reading (take_while is_word_byte (c ∷ z))) (prefix_len is_word_byte (c ∷ z)) (c ∷ z)
word_front_says c z e =
    let size : 0 < prefix_len is_word_byte (c ∷ z) = choose (λ n. 0 < n) (is_word_byte c) (1 + prefix_len is_word_byte z) 0 (λ _. omega arith) (λ f. cc) in
    word_sound (c ∷ z) (prefix_len is_word_byte (c ∷ z)) (word_reading (take_while is_word_byte (c ∷ z)))
    size (prefix_len-le-length is_word_byte (c ∷ z)) (word_says (take_while is_word_byte (c ∷ z)))

-- what is found passes the test
find_by : (test : Symbol → Bool) (x : Symbol) (rest : Option Symbol) (s : Symbol) → (b : Bool) → test x ≡ b → (rest ≡ Some s → test s ≡ true) → cond b (Some x) rest ≡ Some s → test s ≡ true
find_by test x rest s true e later f = let same : x ≡ s = cc in rw (← same) e
find_by test x rest s false e later f = later f

find_passes : (test : Symbol → Bool) (xs : List Symbol) (s : Symbol) → find test xs ≡ Some s → test s ≡ true
find_passes test [] s f = cc
find_passes test (x ∷ xs) s f = find_by test x (find test xs) s (test x) refl (find_passes test xs s) f

pub symbol_text_size : (s : Symbol) → 0 < length (symbol_text s)
symbol_text_size symbol.OpenParenthesis = lit< tt
symbol_text_size symbol.CloseParenthesis = lit< tt
symbol_text_size symbol.OpenBrace = lit< tt
symbol_text_size symbol.CloseBrace = lit< tt
symbol_text_size symbol.OpenBracket = lit< tt
symbol_text_size symbol.CloseBracket = lit< tt
symbol_text_size symbol.Less = lit< tt
symbol_text_size symbol.Greater = lit< tt
symbol_text_size symbol.Comma = lit< tt
symbol_text_size symbol.Semicolon = lit< tt
symbol_text_size symbol.Colon = lit< tt
symbol_text_size symbol.DoubleColon = lit< tt
symbol_text_size symbol.Equals = lit< tt
symbol_text_size symbol.FatArrow = lit< tt
symbol_text_size symbol.Arrow = lit< tt
symbol_text_size symbol.Exclamation = lit< tt
symbol_text_size symbol.Underscore = lit< tt

spelled : (text needle : List ℕ) → starts_with nat_eq text needle ≡ true → (length needle ≤ length text) × (take (length needle) text ≡ needle)
spelled text needle e =
    let shape : text ≡ needle ++ drop (length needle) text = begins text needle e in
    let lengths : length text ≡ length needle + length (drop (length needle) text) = ap length shape ∙ length-append needle (drop (length needle) text) in
    (omega arith, subst (λ (x : List ℕ). take (length needle) x ≡ needle) (sym shape) (take_at needle (drop (length needle) text) (length needle) refl))

symbol_by : (c : ℕ) (text : List ℕ) (o : Option Symbol) → symbol_of text ≡ o → IsSound text (symbol_front c o)
symbol_by c text None e = tt
symbol_by c text (Some s) e =
    let known = spelled text (symbol_text s) (find_passes (λ x. starts_with nat_eq text (symbol_text x)) symbols s e) in
    (symbol_text_size s, known.0, known.1)

-- the front of a text is sound
pub front_sound : (c : ℕ) (z : List ℕ) → IsSound (c ∷ z) (front (c ∷ z))
front_sound c z =
    choose (IsSound (c ∷ z)) (is_white_space c) _ _
    (λ e. (lit< tt, omega arith, white_space c z z e (nothing z)))
    (λ _. choose (IsSound (c ∷ z)) (starts_with nat_eq (c ∷ z) (codes "//")) _ _
    (λ e. line_says (c ∷ z) e)
    (λ _. choose (IsSound (c ∷ z)) (starts_with nat_eq (c ∷ z) (codes "/*")) _ _
    (λ e. block_says (c ∷ z) e)
    (λ _. choose (IsSound (c ∷ z)) (is_word_byte c) _ _
    (λ e. word_front_says c z e)
    (λ _. symbol_by c (c ∷ z) (symbol_of (c ∷ z)) refl))))
