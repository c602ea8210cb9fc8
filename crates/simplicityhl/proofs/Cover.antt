-- The tokens of a text cover it, and their spans rise.
use Rattle.std.proofs.Common.{◌≡◌, refl, sym, ◌∙◌, ap, subst, ℕ, zero, suc, ◌+◌, ◌-◌, ◌≤◌, List, [], ◌∷◌, ◌++◌, length, drop, arith, length-append, Ok, Err}
use Rattle.std.proofs.lemmas.List.{take-append-drop, length-drop, length-take-le}
use Rattle.hl_syntax.specs.declared.token.Token.{Token}
use Rattle.hl_syntax.specs.declared.token.TokenKind.{TokenKind}
use Rattle.simplicityhl.specs.Tokens.{Reading, Front, Lexed, dropped, token, fault, front, with_token, read_then, tokens_after, tokens}
use Rattle.simplicityhl.specs.Cover.{token_text, Skips, nothing, white_space, line_comment, block_comment, Covers, last, next, AreApart}
use Rattle.simplicityhl.proofs.Fronts.{Says, front_sound}

-- what is skipped in two steps is skipped
skips_on : (text rest after : List ℕ) → Skips text rest → Skips rest after → Skips text after
skips_on text rest after (nothing r) s = s
skips_on text rest after (white_space c z r e h) s = white_space c z after e (skips_on z rest after h s)
skips_on text rest after (line_comment t body z r e p q h) s = line_comment t body z after e p q (skips_on z rest after h s)
skips_on text rest after (block_comment t body z r e p h) s = block_comment t body z after e p (skips_on z rest after h s)

-- a text that skips to a covered one is covered
covers_before : (at from : ℕ) (text rest : List ℕ) (ts : List Token) → Skips text rest → from + length rest ≡ at + length text → Covers from rest ts → Covers at text ts
covers_before at from text rest ts s e (last f r h) = last at text (skips_on text rest [] s h)
covers_before at from text rest ts s e (next f r r' left t us h w size start end c) =
    next at text r' left t us (skips_on text rest r' s h) w size (start ∙ e) end c

Later : (at n : ℕ) (z : List ℕ) → Type 0
Later at n z = (us : List Token) → n - 1 ≤ length z → tokens_after (n - 1) (suc at) z ≡ Ok us → Covers (suc at + (n - 1)) (drop (n - 1) z) us

after_gap : (c : ℕ) (z : List ℕ) (at n : ℕ) (ts : List Token) → Says dropped n (c ∷ z) → Covers (suc at + (n - 1)) (drop (n - 1) z) ts → Covers at (c ∷ z) ts
after_gap c z at n ts says later =
    let same : n ≡ suc (n - 1) = omega arith in
    let skipped : Skips (c ∷ z) (drop (n - 1) z) = subst (λ (m : ℕ). Skips (c ∷ z) (drop m (c ∷ z))) same says.2 in
    let lengths : length (drop (n - 1) z) ≡ length z - (n - 1) = length-drop (n - 1) z in
    let sizes : n ≤ suc (length z) = says.1 in
    covers_before at (suc at + (n - 1)) (c ∷ z) (drop (n - 1) z) ts skipped (omega arith) later

after_token : (c : ℕ) (z : List ℕ) (at n : ℕ) (k : TokenKind) (us : List Token) → Says (token k) n (c ∷ z) → Covers (suc at + (n - 1)) (drop (n - 1) z) us → Covers at (c ∷ z) (record { kind = k; span = record { start = at; end = at + n } } ∷ us)
after_token c z at n k us says later =
    let t : Token = record { kind = k; span = record { start = at; end = at + n } } in
    let same : n ≡ suc (n - 1) = omega arith in
    let size : length (token_text k) ≡ n = subst (λ (w : List ℕ). length w ≡ n) says.2 (length-take-le n (c ∷ z) says.1) in
    let left : drop n (c ∷ z) ≡ drop (n - 1) z = ap (λ (m : ℕ). drop m (c ∷ z)) same in
    let whole : c ∷ z ≡ token_text k ++ drop (n - 1) z = rw (← says.2) (rw (← left) (sym (take-append-drop n (c ∷ z)))) in
    let place : suc at + (n - 1) ≡ at + n = omega arith in
    next at (c ∷ z) (c ∷ z) (drop (n - 1) z) t us (nothing (c ∷ z)) whole (omega arith) refl (omega arith)
    (subst (λ (p : ℕ). Covers p (drop (n - 1) z) us) place later)

token_then : (c : ℕ) (z : List ℕ) (at n : ℕ) (k : TokenKind) (ts : List Token) (rest : Lexed) → Says (token k) n (c ∷ z) → ((us : List Token) → rest ≡ Ok us → Covers (suc at + (n - 1)) (drop (n - 1) z) us) → with_token (record { kind = k; span = record { start = at; end = at + n } }) rest ≡ Ok ts → Covers at (c ∷ z) ts
token_then c z at n k ts (Err r) says later e = cc
token_then c z at n k ts (Ok us) says later e =
    let same : record { kind = k; span = record { start = at; end = at + n } } ∷ us ≡ ts = cc in
    subst (λ (x : List Token). Covers at (c ∷ z) x) same (after_token c z at n k us says (later us refl))

reading_then : (c : ℕ) (z : List ℕ) (at n : ℕ) (r : Reading) (ts : List Token) → Says r n (c ∷ z) → Later at n z → read_then at (at + n) r (tokens_after (n - 1) (suc at) z) ≡ Ok ts → Covers at (c ∷ z) ts
unfolding Later
reading_then c z at n dropped ts says later e =
    let sizes : n ≤ suc (length z) = says.1 in
    let short : n - 1 ≤ length z = omega arith in
    after_gap c z at n ts says (later ts short e)
reading_then c z at n (token k) ts says later e =
    let sizes : n ≤ suc (length z) = says.1 in
    let short : n - 1 ≤ length z = omega arith in
    token_then c z at n k ts (tokens_after (n - 1) (suc at) z) says (λ us. later us short) e
reading_then c z at n (fault f) ts says later e = cc

covered : (text : List ℕ) (more at : ℕ) (ts : List Token) → more ≤ length text → tokens_after more at text ≡ Ok ts → Covers (at + more) (drop more text) ts
unfolding Later
covered [] zero at ts l e = let same : [] ≡ ts = cc in subst (λ (x : List Token). Covers (at + 0) [] x) same (last (at + 0) [] (nothing []))
covered [] (suc more) at ts l e = absurd (omega arith)
covered (c ∷ z) (suc more) at ts l e =
    let place : suc at + more ≡ at + suc more = omega arith in
    let short : more ≤ length z = omega arith in
    subst (λ (p : ℕ). Covers p (drop more z) ts) place (covered z more (suc at) ts short e)
covered (c ∷ z) zero at ts l e =
    let here : Front = front (c ∷ z) in
    let place : at ≡ at + 0 = omega arith in
    subst (λ (p : ℕ). Covers p (c ∷ z) ts) place
    (reading_then c z at here.size here.reading ts (front_sound c z) (λ us. covered z (here.size - 1) (suc at) us) e)

-- the tokens of a text cover it
pub tokens_cover : (text : List ℕ) (ts : List Token) → tokens text ≡ Ok ts → Covers 0 text ts
tokens_cover text ts e = covered text 0 0 ts (omega arith) e

-- what is left is no longer
skips_shorter : (text rest : List ℕ) → Skips text rest → length rest ≤ length text
skips_shorter text rest (nothing r) = omega arith
skips_shorter text rest (white_space c z r e h) = let short = skips_shorter z rest h in omega arith
skips_shorter text rest (line_comment t body z r e p q h) =
    let short = skips_shorter z rest h in
    omega (arith, ap length e, length-append body z)
skips_shorter text rest (block_comment t body z r e p h) =
    let short = skips_shorter z rest h in
    omega (arith, ap length e, length-append body (42 ∷ 47 ∷ z))

apart : (at : ℕ) (text : List ℕ) (ts : List Token) → Covers at text ts → AreApart at ts (at + length text)
apart at text ts (last f r h) = omega arith
apart at text ts (next f r r' left t us h w size start end c) =
    let short : length r' ≤ length text = skips_shorter text r' h in
    let whole : length r' ≡ length (token_text t.kind) + length left = ap length w ∙ length-append (token_text t.kind) left in
    let to : t.span.end + length left ≡ at + length text = omega arith in
    (omega arith, omega arith, subst (λ (p : ℕ). AreApart t.span.end us p) to (apart t.span.end left us c))

-- the spans of a text's tokens rise in it
pub spans_rise : (text : List ℕ) (ts : List Token) → tokens text ≡ Ok ts → AreApart 0 ts (length text)
spans_rise text ts e = let same : 0 + length text ≡ length text = omega arith in subst (λ (p : ℕ). AreApart 0 ts p) same (apart 0 text ts (tokens_cover text ts e))
