-- Whole lists of tokens.
use Rattle.std.proofs.Common.{◌≡◌, ℕ, suc, ◌+◌, ◌≤◌, List, [], ◌∷◌, length, refl, sym, ap, ◌∙◌, arith}
use Rattle.hl_syntax.specs.declared.token.Token.{Token}
use Rattle.simplicityhl.specs.Parts.{Part}
use Rattle.hl_grammar.specs.Readers.{Outcome, Reader, got, dead, too_deep, and_then, whole, end}
use Rattle.hl_grammar.specs.Laws.{IsOne}
use Rattle.hl_grammar.proofs.Exact.{Exact, reads_got, got-same}
use Rattle.hl_grammar.proofs.Tokens.{calm}

pub ended : {A : Type 0} (o : Outcome A) (a : A) (rest : List Token) → and_then o (λ b us. and_then (end us) (λ _ vs. got b vs)) ≡ got a rest → o ≡ got a []
ended (got b []) a rest e = let s = got-same e in ap (λ x. got x []) s.0
ended (got b (t ∷ ts)) a rest e = absurd (let no : ⊥ = cc in no)
ended (dead us) a rest e = absurd (let no : ⊥ = cc in no)
ended (too_deep us) a rest e = absurd (let no : ⊥ = cc in no)

-- what is read whole is of the grammar
pub whole-sound : {A : Type 0} {d n least bound : ℕ} {p q : Part A} {reader : Reader A} → Exact calm d n least bound p q reader → (ts : List Token) (a : A) (rest : List Token) → whole reader ts ≡ got a rest → q.Whole ts a []
whole-sound {reader} x ts a rest e = x.sound ts a [] (ended (reader ts) a rest e)

-- what is of the grammar is read
pub read_of : {A : Type 0} {d n least : ℕ} {p q : Part A} {reader : Reader A} (ts : List Token) → Exact calm d n least (suc (length ts)) p q reader → d ≤ n → (a : A) → p.Whole ts a [] → reader ts ≡ got a []
read_of {d} {n} {reader} ts x below a w = reads_got d n (reader ts) a [] below (x.whole ts a [] (omega arith) w refl)

-- and read whole
pub whole-read : {A : Type 0} {d least : ℕ} {p q : Part A} {reader : Reader A} (ts : List Token) → Exact calm d d least (suc (length ts)) p q reader → (a : A) → p.Whole ts a [] → whole reader ts ≡ got a []
whole-read ts x a w = rw (read_of ts x (omega arith) a w) refl

-- a part that is read at every depth from its own on stands for one tree at most
pub one_tree : {A : Type 0} {least : ℕ} (part : ℕ → Part A) (reader : ℕ → Reader A) → ((depth depth' bound : ℕ) → Exact calm depth depth' least bound (part depth) (part depth') (reader depth')) → IsOne part
one_tree part reader exact ts a b v w =
    let d : ℕ = v.0 + w.0 in
    let e = read_of ts (exact v.0 d (suc (length ts))) (omega arith) a v.1.is in
    let h = read_of ts (exact w.0 d (suc (length ts))) (omega arith) b w.1.is in
    (got-same (sym e ∙ h)).0
