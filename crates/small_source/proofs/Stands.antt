-- The names of a small source's body stand in its text at their places.
use Rattle.std.proofs.Common.{◌≡◌, ℕ, subst, suc, ◌+◌, List, [], ◌∷◌, ◌++◌, length, refl, sym, arith, append_assoc, length-append}
use Rattle.small_source.specs.Small.{Small, SmallBody, Named, Paired, Token, Text, TextAt, token_bytes, StandsAt, Separated, nothing, blank, token, type_tokens, body_tokens, parameters_tokens, NamesStandIn, IsSmall}
use Rattle.small_source.proofs.Written.{take_front, drop_front}

-- each token that has a place stands there
abbrev AllStandIn : List ℕ → List Token → Type 0
AllStandIn text [] = Unit {0}
AllStandIn text (Text bytes ∷ ts) = AllStandIn text ts
AllStandIn text (TextAt name place ∷ ts) =
    NamesStandIn text (Named name place) × AllStandIn text ts

stand_back : (text : List ℕ) (ts us : List Token) → AllStandIn text (ts ++ us) → AllStandIn text us
stand_back text [] us s = s
stand_back text (Text bytes ∷ ts) us s = stand_back text ts us s
stand_back text (TextAt name place ∷ ts) us s = stand_back text ts us s.1

stand_front : (text : List ℕ) (ts us : List Token) → AllStandIn text (ts ++ us) → AllStandIn text ts
stand_front text [] us s = tt
stand_front text (Text bytes ∷ ts) us s = stand_front text ts us s
stand_front text (TextAt name place ∷ ts) us s = (s.0, stand_front text ts us s.1)

one_stands : (front name rest : List ℕ) → NamesStandIn (front ++ (name ++ rest)) (Named name (length front))
one_stands front name rest =
    (simp length-append (omega arith), rw (drop_front front (name ++ rest)) (take_front name rest))

stand_one : (text : List ℕ) (t : Token) (ts : List Token) (at : ℕ) → NamesStandIn text (Named (token_bytes t) at) → StandsAt t at → AllStandIn text ts → AllStandIn text (t ∷ ts)
stand_one text (Text bytes) ts at one stands s = s
stand_one text (TextAt name place) ts at one stands s = (rw stands one, s)

stand_from : {at : ℕ} {bytes : List ℕ} {ts : List Token} (front : List ℕ) → at ≡ length front → Separated at bytes ts → AllStandIn (front ++ bytes) ts
stand_from front e nothing = tt
stand_from front e (blank {at = at} {c = c} {bytes = bytes} {tokens = ts} h s) =
    let longer : suc at ≡ length (front ++ c ∷ []) = simp length-append (omega arith) in
    subst (λ text. AllStandIn text ts) (append_assoc front (c ∷ []) bytes) (stand_from (front ++ c ∷ []) longer s)
stand_from front e (token {at = at} {bytes = bytes} {first = t} {others = ts} rest same stands ends s) =
    let w : List ℕ = token_bytes t in
    let longer : at + length w ≡ length (front ++ w) = simp length-append (omega arith) in
    let here : NamesStandIn (front ++ (w ++ rest)) (Named w at) = rw e (one_stands front w rest) in
    let others : AllStandIn (front ++ (w ++ rest)) ts = subst (λ text. AllStandIn text ts) (append_assoc front w rest) (stand_from (front ++ w) longer s) in
    subst (λ v. AllStandIn (front ++ v) (t ∷ ts)) (sym same) (stand_one (front ++ (w ++ rest)) t ts at here stands others)

body_stands : (text : List ℕ) (b : SmallBody) → AllStandIn text (body_tokens b) → NamesStandIn text b
body_stands text (Named name place) s = s.0
body_stands text (Paired a b) s =
    (body_stands text a (stand_front text (body_tokens a) _ s), body_stands text b (stand_front text (body_tokens b) _ (stand_back text (body_tokens a) _ s)))

pub names_stand : (text asked : List ℕ) (f : Small) → IsSmall text asked f → NamesStandIn text f.body
names_stand text asked f s =
    let all = stand_from [] refl s.written in
    let after = stand_back text (type_tokens f.body) _ (stand_back text (parameters_tokens f.parameters) _ all) in
    body_stands text f.body (stand_front text (body_tokens f.body) _ after)
