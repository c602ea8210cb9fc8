-- Tuples by halves, in tables that grow meanwhile.
use Rattle.std.proofs.Common.{◌≡◌, ℕ, ◌/◌, ◌<◌, List, [], ◌∷◌, length, map, take, drop, refl, sym, ap, ◌∙◌, subst, arith}
use Rattle.std.proofs.lemmas.List.{length-map}
use Rattle.std.proofs.lemmas.List.Elements.{All-cons, All-head, All-tail, All-take, All-drop, All-nil}
use Rattle.simplicity.specs.Arrows.{IsTypedTerm}
use Rattle.simplicity.specs.Canon.{Declared}
use Rattle.simplicity.specs.Makes.{unit, pair, tuple}
use Rattle.simplicity.specs.Types.{Kind}
use Rattle.simplicity.proofs.Tuples.{halves_pair, take_map, drop_map}
use Rattle.type_table.specs.Kinds.{kind_at, IsGrown}
use Rattle.term_core.specs.declared.table_node.TermRow.{TermRow}
use Rattle.term_core.specs.Terms.{term_at, StandsOver, MeansTerm, KeepsRows}
use Rattle.term_recipes.specs.Shapes.{terms_at, AreThere}
use Rattle.term_recipes.proofs.Later.{term_later, kind_later, row_later, pair_same}

abbrev IsIn : List TermRow → ℕ → Type 0
IsIn rows id = id < length rows

-- several terms that were there
pub there_later : (rows later : List TermRow) (ids : List ℕ) → KeepsRows rows later → AreThere rows ids → AreThere later ids
there_later rows later [] kept h = All-nil (IsIn later)
there_later rows later (id ∷ ids) kept h =
    All-cons (IsIn later) id ids (row_later rows later id kept (All-head (IsIn rows) id ids h)) (there_later rows later ids kept (All-tail (IsIn rows) id ids h))

pub terms_later : (kinds more : List Kind) (rows later : List TermRow) (ids : List ℕ) → StandsOver kinds rows → IsGrown kinds more → KeepsRows rows later → AreThere rows ids →
    terms_at more later ids ≡ terms_at kinds rows ids
terms_later kinds more rows later [] stands grown kept h = refl
terms_later kinds more rows later (id ∷ ids) stands grown kept h =
    ap (λ t. t ∷ terms_at more later ids) (term_later kinds more rows later id stands grown kept (All-head (IsIn rows) id ids h))
    ∙ ap (λ ts. term_at kinds rows id ∷ ts) (terms_later kinds more rows later ids stands grown kept (All-tail (IsIn rows) id ids h))

pub there_take : (rows : List TermRow) (n : ℕ) (ids some : List ℕ) → some ≡ take n ids → AreThere rows ids → AreThere rows some
there_take rows n ids some is h = subst (AreThere rows) (sym is) (All-take (IsIn rows) n ids h)

pub there_drop : (rows : List TermRow) (n : ℕ) (ids some : List ℕ) → some ≡ drop n ids → AreThere rows ids → AreThere rows some
there_drop rows n ids some is h = subst (AreThere rows) (sym is) (All-drop (IsIn rows) n ids h)

-- the tuple of no part, and of one
pub tuple_none : (a : Kind) (kinds : List Kind) (rows : List TermRow) (ids : List ℕ) → length ids ≡ 0 → unit a ≡ tuple a (terms_at kinds rows ids)
tuple_none a kinds rows [] h = refl
tuple_none a kinds rows (id ∷ ids) h = absurd (omega arith)

-- the tuple of parts from one type
module _ (kinds : List Kind) (rows : List TermRow) (a : Kind) (ids front back : List ℕ) (many : 1 < length ids) (front_is : front ≡ take (length ids / 2) ids) (back_is : back ≡ drop (length ids / 2) ids) where
  abbrev part : List ℕ → Declared
  part some = tuple a (terms_at kinds rows some)

  pub halves_are : part ids ≡ pair (part front) (part back)
  halves_are =
      let f = term_at kinds rows in
      let n = length ids / 2 in
      halves_pair (unit a) pair (map f ids) (omega (arith, length-map ids f))
      ∙ ap (λ m. pair (tuple a (take (m / 2) (map f ids))) (tuple a (drop (m / 2) (map f ids)))) (length-map ids f)
      ∙ ap (λ ts. pair (tuple a ts) (tuple a (drop n (map f ids)))) (sym (take_map f n ids))
      ∙ ap (λ ts. pair (part (take n ids)) (tuple a ts)) (sym (drop_map f n ids))
      ∙ ap (λ some. pair (part some) (part (drop n ids))) (sym front_is)
      ∙ ap (λ some. pair (part front) (part some)) (sym back_is)

  pub front_typed : IsTypedTerm (part ids) → IsTypedTerm (part front)
  front_typed h = let both : IsTypedTerm (pair (part front) (part back)) = subst IsTypedTerm halves_are h in both.1

  pub back_typed : IsTypedTerm (part ids) → IsTypedTerm (part back)
  back_typed h = let both : IsTypedTerm (pair (part front) (part back)) = subst IsTypedTerm halves_are h in both.2

-- a tuple of parts that were there
pub tuple_later : (kinds more : List Kind) (rows later : List TermRow) (source : ℕ) (ids : List ℕ) → StandsOver kinds rows → IsGrown kinds more → KeepsRows rows later → source < length kinds → AreThere rows ids →
    tuple (kind_at more source) (terms_at more later ids) ≡ tuple (kind_at kinds source) (terms_at kinds rows ids)
tuple_later kinds more rows later source ids stands grown kept within there =
    ap (λ a. tuple a (terms_at more later ids)) (kind_later kinds more source grown within) ∙ ap (tuple (kind_at kinds source)) (terms_later kinds more rows later ids stands grown kept there)

-- both halves, once they are made
pub halves_made : (kinds one two : List Kind) (rows first_rows later : List TermRow) (source first rest : ℕ) (ids front back : List ℕ) → 1 < length ids → front ≡ take (length ids / 2) ids → back ≡ drop (length ids / 2) ids →
    StandsOver kinds rows → StandsOver one first_rows → IsGrown kinds one → IsGrown one two → KeepsRows rows first_rows → KeepsRows first_rows later → source < length kinds → AreThere rows back →
    MeansTerm one first_rows first (tuple (kind_at kinds source) (terms_at kinds rows front)) → MeansTerm two later rest (tuple (kind_at one source) (terms_at one first_rows back)) →
    pair (term_at two later first) (term_at two later rest) ≡ tuple (kind_at kinds source) (terms_at kinds rows ids)
halves_made kinds one two rows first_rows later source first rest ids front back many front_is back_is stands stands_one grown more kept kept_on within there f r =
    let a = kind_at kinds source in
    pair_same (term_at two later first) (term_at two later rest) (tuple a (terms_at kinds rows front)) (tuple a (terms_at kinds rows back))
    (term_later one two first_rows later first stands_one more kept_on f.within ∙ f.is) (r.is ∙ tuple_later kinds one rows first_rows source back stands grown kept within there)
    ∙ sym (halves_are kinds rows a ids front back many front_is back_is)
