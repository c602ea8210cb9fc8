-- What a table of terms keeps when it grows, and when its types do.
use Rattle.std.proofs.Common.{◌≡◌, ℕ, zero, suc, ◌+◌, ◌<◌, ◌≤◌, List, [], ◌∷◌, ◌++◌, length, slice_get, Some, refl, sym, ap, ◌∙◌, arith, append_assoc, append-nil, length-append}
use Rattle.std.proofs.lemmas.Option.{slice_get_within}
use Rattle.std.proofs.Math.ListN.{get_or-append}
use Rattle.std.proofs.Math.Seq.{get_or-append_seam}
use Rattle.simplicity.specs.Types.{Kind, One}
use Rattle.simplicity.specs.Nodes.{AreUnder}
use Rattle.simplicity.specs.Typing.{Arrow, arrow}
use Rattle.simplicity.specs.Canon.{Declared}
use Rattle.simplicity.specs.Canon as term
use Rattle.type_table.specs.Kinds.{IsGrown}
use Rattle.type_table.proofs.Growth.{grown_length, kind_at-grown}
use Rattle.term_core.specs.declared.table_node.Node.{Node}
use Rattle.term_core.specs.declared.table_node.Node.TheVariants as code
use Rattle.term_core.specs.declared.table_node.TermRow.{TermRow}
use Rattle.term_core.specs.Terms.{child_ids, term_of, node_term, row_term, terms_after, terms, term_at, MayFollow, FollowFrom, StandsOver, MeansTerm, KeepsRows}
use Rattle.term_core.specs.Laws.{TermsStay, StandingStays}

pub terms_after-append : (kinds : List Kind) (ts : List Declared) (rows more : List TermRow) → terms_after kinds ts (rows ++ more) ≡ terms_after kinds (terms_after kinds ts rows) more
terms_after-append kinds ts [] more = refl
terms_after-append kinds ts (row ∷ rows) more = terms_after-append kinds (ts ++ row_term kinds ts row ∷ []) rows more

pub length-terms_after : (kinds : List Kind) (ts : List Declared) (rows : List TermRow) → length (terms_after kinds ts rows) ≡ length ts + length rows
length-terms_after kinds ts [] = omega arith
length-terms_after kinds ts (row ∷ rows) = omega (arith, length-terms_after kinds (ts ++ row_term kinds ts row ∷ []) rows, length-append ts (row_term kinds ts row ∷ []))

pub length-terms : (kinds : List Kind) (rows : List TermRow) → length (terms kinds rows) ≡ length rows
length-terms kinds rows = omega (arith, length-terms_after kinds [] rows)

-- terms that are there stay
terms_stay_after : (kinds : List Kind) (ts : List Declared) (rows : List TermRow) (id : ℕ) → id < length ts → term_of (terms_after kinds ts rows) id ≡ term_of ts id
terms_stay_after kinds ts [] id h = refl
terms_stay_after kinds ts (row ∷ rows) id h =
    let more : id < length (ts ++ row_term kinds ts row ∷ []) = omega (arith, length-append ts (row_term kinds ts row ∷ [])) in
    terms_stay_after kinds (ts ++ row_term kinds ts row ∷ []) rows id more ∙ get_or-append ts (row_term kinds ts row ∷ []) (term.UnitTerm (arrow One One)) id h

pub term_at-kept : (kinds : List Kind) (old new : List TermRow) (id : ℕ) → KeepsRows old new → id < length old → term_at kinds new id ≡ term_at kinds old id
term_at-kept kinds old new id k h =
    let within : id < length (terms kinds old) = omega (arith, length-terms kinds old) in
    ap (λ rows. term_at kinds rows id) k.is ∙ ap (λ ts. term_of ts id) (terms_after-append kinds [] old k.more) ∙ terms_stay_after kinds (terms kinds old) k.more id within

-- a row's term is over the types that were there
pub row_term-grown : (kinds more : List Kind) (ts : List Declared) (row : TermRow) → IsGrown kinds more → MayFollow kinds ts row → row_term more ts row ≡ row_term kinds ts row
row_term-grown kinds more ts row g f =
    let s = kind_at-grown kinds more row.source g f.source in
    let t = kind_at-grown kinds more row.target g f.target in
    rw (s, t) refl

pub terms_after-grown : (kinds more : List Kind) (ts : List Declared) (rows : List TermRow) → IsGrown kinds more → FollowFrom kinds ts rows → terms_after more ts rows ≡ terms_after kinds ts rows
terms_after-grown kinds more ts [] g f = refl
terms_after-grown kinds more ts (row ∷ rows) g f =
    ap (λ (t : Declared). terms_after more (ts ++ t ∷ []) rows) (row_term-grown kinds more ts row g f.0)
    ∙ terms_after-grown kinds more (ts ++ row_term kinds ts row ∷ []) rows g f.1

follow_grown : (kinds more : List Kind) (ts : List Declared) (rows : List TermRow) → IsGrown kinds more → FollowFrom kinds ts rows → FollowFrom more ts rows
follow_grown kinds more ts [] g f = tt
follow_grown kinds more ts (row ∷ rows) g f =
    let same = row_term-grown kinds more ts row g f.0 in
    let longer = grown_length kinds more g in
    let first : MayFollow more ts row = record {
      children = f.0.children;
      source = omega (arith, f.0.source);
      target = omega (arith, f.0.target);
      meets = rw same f.0.meets;
    } in
    (first, rw same (follow_grown kinds more (ts ++ row_term kinds ts row ∷ []) rows g f.1))

pub terms_stay : TermsStay
terms_stay kinds more_kinds rows more_rows id stands g k h =
    term_at-kept more_kinds rows more_rows id k h ∙ ap (λ ts. term_of ts id) (terms_after-grown kinds more_kinds [] rows g stands.each)

pub standing_stays : StandingStays
standing_stays kinds more rows stands g = record { each = follow_grown kinds more [] rows g stands.each }

-- a row at the end
follow_on : (kinds : List Kind) (ts : List Declared) (rows : List TermRow) (row : TermRow) → FollowFrom kinds ts rows → MayFollow kinds (terms_after kinds ts rows) row → FollowFrom kinds ts (rows ++ row ∷ [])
follow_on kinds ts [] row f next = (next, tt)
follow_on kinds ts (first ∷ rows) row f next = (f.0, follow_on kinds (ts ++ row_term kinds ts first ∷ []) rows row f.1 next)

pub stands_on : (kinds : List Kind) (rows : List TermRow) (row : TermRow) → StandsOver kinds rows → MayFollow kinds (terms kinds rows) row → StandsOver kinds (rows ++ row ∷ [])
stands_on kinds rows row stands next = record { each = follow_on kinds [] rows row stands.each next }

pub means_last : (kinds : List Kind) (rows : List TermRow) (row : TermRow) (id : ℕ) → id ≡ length rows → MeansTerm kinds (rows ++ row ∷ []) id (row_term kinds (terms kinds rows) row)
means_last kinds rows row id at = record {
  within = omega (arith, length-append rows (row ∷ []));
  is =
      let here : id ≡ length (terms kinds rows) = omega (arith, length-terms kinds rows) in
      ap (λ ts. term_of ts id) (terms_after-append kinds [] rows (row ∷ []))
      ∙ ap (term_of (terms kinds rows ++ row_term kinds (terms kinds rows) row ∷ [])) here
      ∙ get_or-append_seam (terms kinds rows) (row_term kinds (terms kinds rows) row) [] (term.UnitTerm (arrow One One));
}

-- a row's term is over the terms of its children alone
same_node : (ts us : List Declared) (n : Node) (a : Arrow) → ((i : ℕ) → i < length ts → term_of us i ≡ term_of ts i) → AreUnder (length ts) (child_ids n) → node_term us n a ≡ node_term ts n a
same_node ts us code.Iden a same under = refl
same_node ts us code.Unit a same under = refl
same_node ts us (code.Injl i) a same under = ap (term.Injl a) (same i under.0)
same_node ts us (code.Injr i) a same under = ap (term.Injr a) (same i under.0)
same_node ts us (code.Take i) a same under = ap (term.Take a) (same i under.0)
same_node ts us (code.Drop i) a same under = ap (term.Drop a) (same i under.0)
same_node ts us (code.Comp i j) a same under = let e = same i under.0 in let f = same j under.1.0 in cc
same_node ts us (code.Case i j) a same under = let e = same i under.0 in let f = same j under.1.0 in cc
same_node ts us (code.Pair i j) a same under = let e = same i under.0 in let f = same j under.1.0 in cc
same_node ts us (code.AssertL i h) a same under = ap (λ t. term.AssertL a t h) (same i under.0)
same_node ts us (code.AssertR h i) a same under = ap (term.AssertR a h) (same i under.0)
same_node ts us code.Fail a same under = refl
same_node ts us (code.Witness n) a same under = refl
same_node ts us (code.Word w) a same under = refl

-- what a row that stands there means
means_after : (kinds : List Kind) (ts : List Declared) (rows : List TermRow) (id : ℕ) (row : TermRow) → FollowFrom kinds ts rows → slice_get rows id ≡ Some row →
    term_of (terms_after kinds ts rows) (length ts + id) ≡ row_term kinds (terms_after kinds ts rows) row
means_after kinds ts [] id row f h = cc
means_after kinds ts (first ∷ rows) zero row f h =
    let is : first ≡ row = cc in
    let t = row_term kinds ts first in
    let last : length ts < length (ts ++ row_term kinds ts first ∷ []) = omega (arith, length-append ts (row_term kinds ts first ∷ [])) in
    let here : length ts + 0 ≡ length ts = omega arith in
    ap (term_of (terms_after kinds (ts ++ t ∷ []) rows)) here
    ∙ terms_stay_after kinds (ts ++ t ∷ []) rows (length ts) last
    ∙ get_or-append_seam ts t [] (term.UnitTerm (arrow One One))
    ∙ sym (same_node ts (terms_after kinds (ts ++ t ∷ []) rows) first.node _ (terms_stay_after kinds ts (first ∷ rows)) f.0.children)
    ∙ ap (row_term kinds (terms_after kinds (ts ++ t ∷ []) rows)) is
means_after kinds ts (first ∷ rows) (suc id) row f h =
    let t = row_term kinds ts first in
    let here : length ts + suc id ≡ length (ts ++ row_term kinds ts first ∷ []) + id = omega (arith, length-append ts (row_term kinds ts first ∷ [])) in
    ap (term_of (terms_after kinds (ts ++ t ∷ []) rows)) here ∙ means_after kinds (ts ++ t ∷ []) rows id row f.1 h

pub means_there : (kinds : List Kind) (rows : List TermRow) (id : ℕ) (row : TermRow) → StandsOver kinds rows → slice_get rows id ≡ Some row → MeansTerm kinds rows id (row_term kinds (terms kinds rows) row)
means_there kinds rows id row stands h =
    let here : id ≡ 0 + id = omega arith in
    record { within = slice_get_within rows id row h; is = ap (term_of (terms kinds rows)) here ∙ means_after kinds [] rows id row stands.each h }

pub kept_self : (rows : List TermRow) → KeepsRows rows rows
kept_self rows = record { more = []; is = rw append-nil refl }

pub kept_on : (rows : List TermRow) (row : TermRow) → KeepsRows rows (rows ++ row ∷ [])
kept_on rows row = record { more = row ∷ []; is = refl }

pub kept_through : (old middle new : List TermRow) → KeepsRows old middle → KeepsRows middle new → KeepsRows old new
kept_through old middle new g h = record { more = g.more ++ h.more; is = h.is ∙ ap (λ rows. rows ++ h.more) g.is ∙ append_assoc old g.more h.more }

pub kept_length : (old new : List TermRow) → KeepsRows old new → length old ≤ length new
kept_length old new k = omega (arith, ap length k.is ∙ length-append old k.more)

-- what an id means stays
pub means_kept : (kinds : List Kind) (old new : List TermRow) (id : ℕ) (t : Declared) → KeepsRows old new → MeansTerm kinds old id t → MeansTerm kinds new id t
means_kept kinds old new id t k m =
    let longer = kept_length old new k in
    record { within = omega (arith, m.within); is = term_at-kept kinds old new id k m.within ∙ m.is }

pub means_grown : (kinds more : List Kind) (rows : List TermRow) (id : ℕ) (t : Declared) → StandsOver kinds rows → IsGrown kinds more → MeansTerm kinds rows id t → MeansTerm more rows id t
means_grown kinds more rows id t stands g m = record {
  within = m.within;
  is = ap (λ ts. term_of ts id) (terms_after-grown kinds more [] rows g stands.each) ∙ m.is;
}
