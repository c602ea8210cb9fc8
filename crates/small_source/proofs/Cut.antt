-- Each token of a small source is cut off as one token.
use Rattle.std.proofs.Common.{◌≡◌, ◌==◌, ℕ, suc, ◌+◌, true, false, cond, not, ◌&&◌, ◌||◌, List, [], ◌∷◌, ◌++◌, length, refl, ap, ◌∙◌, inl, inr, codes, bytes_eq}
use Rattle.std.proofs.Math.Numerals.{one-add}
use Rattle.std.specs.List.{list_all, prefix_len}
use Rattle.std.proofs.lemmas.Bool.{cond-true, and_parts, and_from, or_cases, or_left, eqb-true, false_from_ne_true}
use Rattle.small_source.specs.Names.{is_blank, is_word_byte, is_name_start, is_name, keywords, is_among, names_variable, names_function}
use Rattle.hl_rules.specs.Names.{variable_words, function_words, main_name}
use Rattle.small_source.specs.Small.{Small, SmallBody, Named, Paired, Token, Text, EndsBefore, type_tokens, body_tokens, more_parameter_tokens, parameters_tokens, function_tokens, body_names_fit}
use Rattle.small_source.specs.Tokens.{begins_with}
use Rattle.small_source.proofs.Written.{IsCut, AllCut, Stops}

AllCut-append : (ts us : List Token) → AllCut ts → AllCut us → AllCut (ts ++ us)
AllCut-append [] us a b = b
AllCut-append (t ∷ ts) us a b = (a.0, AllCut-append ts us a.1 b)

blank_no_word : (c : ℕ) → is_blank c ≡ true → is_word_byte c ≡ false
blank_no_word c h =
    elim (or_cases (c == 32) (c == 9 || (c == 13 || c == 10)) h) [
      | inl e ↦ rw (eqb-true c 32 e) refl
      | inr g ↦ elim (or_cases (c == 9) (c == 13 || c == 10) g) [
        | inl e ↦ rw (eqb-true c 9 e) refl
        | inr f ↦ elim (or_cases (c == 13) (c == 10) f) [
          | inl e ↦ rw (eqb-true c 13 e) refl
          | inr e ↦ rw (eqb-true c 10 e) refl
        ]
      ]
    ]

word_no_blank : (c : ℕ) → is_word_byte c ≡ true → is_blank c ≡ false
word_no_blank c h = false_from_ne_true (is_blank c) (λ b. let no : ⊥ = cc (blank_no_word c b) in no)

word_whole : (w rest : List ℕ) → list_all is_word_byte w ≡ true → Stops is_word_byte rest → prefix_len is_word_byte (w ++ rest) ≡ length w
word_whole [] [] all stops = refl
word_whole [] (d ∷ rest) all stops = rw stops refl
word_whole (c ∷ w) rest all stops =
    let both = and_parts (is_word_byte c) (list_all is_word_byte w) all in
    cond-true (is_word_byte c) (1 + prefix_len is_word_byte (w ++ rest)) 0 both.0 ∙ one-add _ ∙ ap suc (word_whole w rest both.1 stops)

stops_after : (w rest : List ℕ) → list_all is_word_byte w ≡ true → EndsBefore w rest → Stops is_word_byte rest
stops_after w [] all ends = tt
stops_after w (d ∷ rest) all ends = ends all

word_cut : (c : ℕ) (w : List ℕ) → is_word_byte c ≡ true → list_all is_word_byte w ≡ true → IsCut (c ∷ w)
word_cut c w first all =
    (word_no_blank c first, λ rest ends. cond-true (is_word_byte c) (prefix_len is_word_byte (w ++ rest)) (cond (c == 45 && begins_with 62 (w ++ rest)) 1 0) first ∙ word_whole w rest all (stops_after (c ∷ w) rest (and_from _ _ first all) ends))

name_cut : (w : List ℕ) → is_name w ≡ true → IsCut w
name_cut [] h = let no : ⊥ = cc in no
name_cut (c ∷ w) h =
    let a = and_parts (is_name_start c) (list_all is_word_byte w && not (is_among keywords (c ∷ w))) h in
    let b = and_parts (list_all is_word_byte w) (not (is_among keywords (c ∷ w))) a.1 in
    word_cut c w (or_left _ _ a.0) b.0

variable_cut : (w : List ℕ) → names_variable w ≡ true → IsCut w
variable_cut w h = name_cut w (and_parts (is_name w) (not (is_among variable_words w)) h).0

cut_u8 : IsCut (codes "u8")
cut_u8 = word_cut 117 (56 ∷ []) refl refl

cut_fn : IsCut (codes "fn")
cut_fn = word_cut 102 (110 ∷ []) refl refl

cut_open : IsCut (codes "(")
cut_open = (refl, λ rest ends. refl)

cut_close : IsCut (codes ")")
cut_close = (refl, λ rest ends. refl)

cut_comma : IsCut (codes ",")
cut_comma = (refl, λ rest ends. refl)

cut_colon : IsCut (codes ":")
cut_colon = (refl, λ rest ends. refl)

cut_arrow : IsCut (codes "->")
cut_arrow = (refl, λ rest ends. refl)

cut_brace : IsCut (codes "{")
cut_brace = (refl, λ rest ends. refl)

cut_end : IsCut (codes "}")
cut_end = (refl, λ rest ends. refl)

pair_cut : (ts us : List Token) → AllCut ts → AllCut us → AllCut (Text (codes "(") ∷ (ts ++ (Text (codes ",") ∷ (us ++ Text (codes ")") ∷ []))))
pair_cut ts us a b =
    (cut_open, AllCut-append ts _ a (cut_comma, AllCut-append us _ b (cut_close, tt)))

type_cut : (b : SmallBody) → AllCut (type_tokens b)
type_cut (Named name place) = (cut_u8, tt)
type_cut (Paired a b) = pair_cut (type_tokens a) (type_tokens b) (type_cut a) (type_cut b)

body_cut : (b : SmallBody) → body_names_fit b ≡ true → AllCut (body_tokens b)
body_cut (Named name place) h = (variable_cut name h, tt)
body_cut (Paired a b) h =
    let both = and_parts (body_names_fit a) (body_names_fit b) h in
    pair_cut (body_tokens a) (body_tokens b) (body_cut a both.0) (body_cut b both.1)

more_cut : (names : List (List ℕ)) → list_all names_variable names ≡ true → AllCut (more_parameter_tokens names)
more_cut [] h = tt
more_cut (name ∷ names) h =
    let both = and_parts (names_variable name) (list_all names_variable names) h in
    (cut_comma, (variable_cut name both.0, (cut_colon, (cut_u8, more_cut names both.1))))

parameters_cut : (names : List (List ℕ)) → list_all names_variable names ≡ true → AllCut (parameters_tokens names)
parameters_cut [] h = tt
parameters_cut (name ∷ names) h =
    let both = and_parts (names_variable name) (list_all names_variable names) h in
    (variable_cut name both.0, (cut_colon, (cut_u8, more_cut names both.1)))

pub function_cut : (asked : List ℕ) (f : Small) → names_function asked ≡ true → list_all names_variable f.parameters ≡ true → body_names_fit f.body ≡ true → AllCut (function_tokens asked f)
function_cut asked f named variables fit =
    let name = name_cut asked (and_parts (is_name asked) (not (is_among function_words asked) && not (bytes_eq asked main_name)) named).0 in
    (cut_fn, (name, (cut_open, AllCut-append (parameters_tokens f.parameters) _ (parameters_cut f.parameters variables) (cut_close, (cut_arrow, AllCut-append (type_tokens f.body) _ (type_cut f.body) (cut_brace, AllCut-append (body_tokens f.body) _ (body_cut f.body fit) (cut_end, tt)))))))
