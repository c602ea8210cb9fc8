-- One reading, and the tokens of what follows it.
use Rattle.std.proofs.Common.{◌≡◌, refl, sym, ◌∙◌, ap, subst, ℕ, zero, suc, ◌+◌, ◌-◌, ◌<◌, ◌≤◌, List, [], ◌∷◌, ◌++◌, length, drop, arith, get_or, append_assoc, Ok, Err}
use Rattle.std.proofs.lemmas.List.{drop_more, drop-drop, length-drop}
use Rattle.hl_syntax.specs.declared.token.Token.{Token}
use Rattle.hl_syntax.specs.declared.token.TokenKind.{TokenKind}
use Rattle.simplicityhl.specs.Tokens.{Reading, Front, Lexed, dropped, token, front, with_token, read_then, tokens_after}
use Rattle.simplicityhl.proofs.Fronts.{IsSound, front_sound}
use Rattle.hl_lex.specs.declared.front.Front.{Front as CodeFront}
use Rattle.hl_lex.specs.Seen.{front_of, reading_of}
use Rattle.hl_lex.specs.Lexes.{tokens_then}

-- bytes that were read are passed over
passed : (text : List ℕ) (more at : ℕ) → more ≤ length text → tokens_after more at text ≡ tokens_after 0 (at + more) (drop more text)
passed text zero at short = ap (λ (p : ℕ). tokens_after 0 p text) (omega arith)
passed [] (suc more) at short = absurd (omega arith)
passed (c ∷ z) (suc more) at short =
    let less : more ≤ length z = omega arith in
    passed z more (suc at) less ∙ ap (λ (p : ℕ). tokens_after 0 p (drop more z)) (omega arith)

-- what stands at a place, when it is known
read_at : (c : ℕ) (z : List ℕ) (at : ℕ) (f : Front) → front (c ∷ z) ≡ f → tokens_after 0 at (c ∷ z) ≡ read_then at (at + f.size) f.reading (tokens_after (f.size - 1) (suc at) z)
read_at c z at f e = ap (λ (g : Front). read_then at (at + g.size) g.reading (tokens_after (g.size - 1) (suc at) z)) e

-- what a reading says where it stands, when it is known
said_at : (c : ℕ) (z : List ℕ) (f : Front) → front (c ∷ z) ≡ f → IsSound (c ∷ z) f
said_at c z f e = subst (λ (g : Front). IsSound (c ∷ z) g) e (front_sound c z)

passed_from : (text : List ℕ) (at n : ℕ) → at < length text → 0 < n → n ≤ length (drop at text) → tokens_after (n - 1) (suc at) (drop (at + 1) text) ≡ tokens_after 0 (at + n) (drop (at + n) text)
passed_from text at n short some whole =
    let rest : length (drop at text) ≡ length text - at = length-drop at text in
    let tail : length (drop (at + 1) text) ≡ length text - (at + 1) = length-drop (at + 1) text in
    let less : n - 1 ≤ length (drop (at + 1) text) = omega arith in
    let place : suc at + (n - 1) ≡ at + n = omega arith in
    let both : (at + 1) + (n - 1) ≡ at + n = omega arith in
    passed (drop (at + 1) text) (n - 1) (suc at) less
    ∙ ap (λ (p : ℕ). tokens_after 0 p (drop (n - 1) (drop (at + 1) text))) place
    ∙ ap (λ (x : List ℕ). tokens_after 0 (at + n) x) (drop-drop (n - 1) (at + 1) text ∙ ap (λ (p : ℕ). drop p text) both)

-- a reading of some bytes ends in the text, behind where it begins
pub record Ends (text : List ℕ) (at n : ℕ) : Type 0 where
  pub onward : at < at + n
  pub within : at + n ≤ length text

ends : (text : List ℕ) (at n : ℕ) → at < length text → 0 < n → n ≤ length (drop at text) → Ends text at n
ends text at n short some whole =
    let rest : length (drop at text) ≡ length text - at = length-drop at text in
    record { onward = omega arith; within = omega arith }

shape : (text : List ℕ) (at : ℕ) → at < length text → drop at text ≡ get_or text at 0 ∷ drop (at + 1) text
shape text at short = drop_more text at 0 short

known_at : (text : List ℕ) (at : ℕ) (f : Front) → at < length text → front (drop at text) ≡ f → front (get_or text at 0 ∷ drop (at + 1) text) ≡ f
known_at text at f short e = ap front (sym (shape text at short)) ∙ e

sound_at : (text : List ℕ) (at : ℕ) (f : Front) → at < length text → front (drop at text) ≡ f → IsSound (drop at text) f
sound_at text at f short e =
    subst (λ (x : List ℕ). IsSound x f) (sym (shape text at short))
    (said_at (get_or text at 0) (drop (at + 1) text) f (known_at text at f short e))

read_here : (text : List ℕ) (at : ℕ) (f : Front) → at < length text → front (drop at text) ≡ f → tokens_after 0 at (drop at text) ≡ read_then at (at + f.size) f.reading (tokens_after (f.size - 1) (suc at) (drop (at + 1) text))
read_here text at f short e =
    ap (λ (x : List ℕ). tokens_after 0 at x) (shape text at short)
    ∙ read_at (get_or text at 0) (drop (at + 1) text) at f (known_at text at f short e)

-- white space and comments are dropped
pub dropped_ends : (text : List ℕ) (at n : ℕ) → at < length text → front (drop at text) ≡ record { reading = dropped; size = n } → Ends text at n
dropped_ends text at n short e = let says = sound_at text at (record { reading = dropped; size = n }) short e in ends text at n short says.0 says.1

pub dropped_on : (text : List ℕ) (at n : ℕ) → at < length text → front (drop at text) ≡ record { reading = dropped; size = n } → tokens_after 0 at (drop at text) ≡ tokens_after 0 (at + n) (drop (at + n) text)
dropped_on text at n short e =
    let says = sound_at text at (record { reading = dropped; size = n }) short e in
    read_here text at (record { reading = dropped; size = n }) short e ∙ passed_from text at n short says.0 says.1

-- a token is put before those of the rest
pub token_ends : (text : List ℕ) (at n : ℕ) (k : TokenKind) → at < length text → front (drop at text) ≡ record { reading = token k; size = n } → Ends text at n
token_ends text at n k short e = let says = sound_at text at (record { reading = token k; size = n }) short e in ends text at n short says.0 says.1

after_tokens : (ts : List Token) (t : Token) (rest : Lexed) → tokens_then ts (with_token t rest) ≡ tokens_then (ts ++ t ∷ []) rest
after_tokens ts t (Ok us) = ap (λ (x : List Token). Ok x) (sym (append_assoc ts (t ∷ []) us))
after_tokens ts t (Err e) = refl

pub token_on : (text : List ℕ) (at n : ℕ) (k : TokenKind) (ts : List Token) → at < length text → front (drop at text) ≡ record { reading = token k; size = n } → tokens_then ts (tokens_after 0 at (drop at text)) ≡ tokens_then (ts ++ record { kind = k; span = record { start = at; end = at + n } } ∷ []) (tokens_after 0 (at + n) (drop (at + n) text))
token_on text at n k ts short e =
    let t : Token = record { kind = k; span = record { start = at; end = at + n } } in
    let says = sound_at text at (record { reading = token k; size = n }) short e in
    ap (λ (x : Lexed). tokens_then ts x) (read_here text at (record { reading = token k; size = n }) short e ∙ ap (λ (x : Lexed). with_token t x) (passed_from text at n short says.0 says.1))
    ∙ after_tokens ts t (tokens_after 0 (at + n) (drop (at + n) text))

-- what the code found, where what it read is known
pub known_front : (found : CodeFront) (r : Reading) (rest text : List ℕ) → front_of found ≡ front rest → rest ≡ text → reading_of found.reading ≡ r → front text ≡ record { reading = r; size = found.size }
known_front found r rest text e same is = ap front (sym same) ∙ sym e ∙ ap (λ (x : Reading). record { reading = x; size = found.size }) is
