-- The same rows where the types that they need were added first, over the terms as they were before.
use Rattle.std.proofs.Common.{◌≡◌, ℕ, ◌<◌, List, length, refl, sym, ap, ◌∙◌, subst}
use Rattle.std.specs.Prelude.{IfOk}
use Rattle.std.specs.declared.alloc.AllocError.{AllocError}
use Rattle.std.proofs.Common.{Result}
use Rattle.simplicity.specs.Arrows.{source, target}
use Rattle.simplicity.specs.Canon.{Declared}
use Rattle.simplicity.specs.Makes.{fail_root, unit, pair, on_first, on_second, to_left, to_right, by_tag, only_left, only_right}
use Rattle.simplicity.specs.Types.{Kind, One, Sum, Product}
use Rattle.type_table.proofs.Growth as types
use Rattle.type_table.specs.Kinds.{kind_at, Means, IsGrown}
use Rattle.term_core.specs.declared.table_node.Node.TheVariants as code
use Rattle.term_core.specs.declared.table_node.TermRow.{TermRow}
use Rattle.term_core.specs.Rows.{row_of}
use Rattle.term_core.specs.Terms.{terms, term_at, row_term, StandsOver, MeansTerm}
use Rattle.term_core.proofs.Growth.{means_grown}
use Rattle.term_makers.specs.Made.{HasArrow, Made}
use Rattle.term_makers.proofs.Made.{rows_are_made, pair_made, first_made, second_made, left_made, right_made, tag_made, only_left_made, only_right_made}

-- what was added means what is made
pub as_made : (kinds : List Kind) (rows new : List TermRow) (row : TermRow) (t : Declared) (r : Result ℕ AllocError) → Made kinds rows row t → IfOk r (λ id. MeansTerm kinds new id (row_term kinds (terms kinds rows) row)) →
    IfOk r (λ id. MeansTerm kinds new id t)
as_made kinds rows new row t r m h = subst (λ u. IfOk r (λ id. MeansTerm kinds new id u)) m.means h

module _ (kinds more : List Kind) (rows : List TermRow) (stands : StandsOver kinds rows) (grown : IsGrown kinds more) where
  abbrev at : ℕ → Declared
  at i = term_at kinds rows i

  stays : (i : ℕ) → i < length rows → term_at more rows i ≡ at i
  stays i h = (means_grown kinds more rows i (at i) stands grown (record { within = h; is = refl })).is

  -- the arrow of a term that stays
  later : (i a b : ℕ) → HasArrow kinds rows i a b → HasArrow more rows i a b
  later i a b h =
      let same = stays i h.within in
      record {
        within = h.within;
        source = subst (λ t. Means more a (source t)) (sym same) (types.means_grown kinds more a (source (at i)) grown h.source);
        target = subst (λ t. Means more b (target t)) (sym same) (types.means_grown kinds more b (target (at i)) grown h.target);
      }

  from_stays : (i a b : ℕ) → HasArrow kinds rows i a b → source (term_at more rows i) ≡ source (at i)
  from_stays i a b h = ap source (stays i h.within)

  to_stays : (i a b : ℕ) → HasArrow kinds rows i a b → target (term_at more rows i) ≡ target (at i)
  to_stays i a b h = ap target (stays i h.within)

  pub pair_later : (i j a b c d both : ℕ) → HasArrow kinds rows i a b → HasArrow kinds rows j c d → source (at j) ≡ source (at i) → Means more both (Product (kind_at kinds b) (kind_at kinds d)) →
      Made more rows (row_of (code.Pair i j) a both) (pair (at i) (at j))
  pair_later i j a b c d both h g meets m =
      let types_are : Product (kind_at kinds b) (kind_at kinds d) ≡ Product (target (term_at more rows i)) (target (term_at more rows j)) =
      ap (λ k. Product k (kind_at kinds d)) (h.target.is ∙ sym (to_stays i a b h)) ∙ ap (Product (target (term_at more rows i))) (g.target.is ∙ sym (to_stays j c d g)) in
      subst (λ s. Made more rows (row_of (code.Pair i j) a both) (pair s (at j))) (stays i h.within)
      (subst (λ t. Made more rows (row_of (code.Pair i j) a both) (pair (term_at more rows i) t)) (stays j g.within)
      (pair_made more rows i j a b c d both (later i a b h) (later j c d g) (from_stays j c d g ∙ meets ∙ sym (from_stays i a b h)) (subst (Means more both) types_are m)))

  pub first_later : (i a b other both : ℕ) → HasArrow kinds rows i a b → Means more both (Product (kind_at kinds a) (kind_at kinds other)) → Made more rows (row_of (code.Take i) both b) (on_first (kind_at kinds other) (at i))
  first_later i a b other both h m =
      subst (λ t. Made more rows (row_of (code.Take i) both b) (on_first (kind_at kinds other) t)) (stays i h.within)
      (first_made more rows i a b both (kind_at kinds other) (later i a b h) (subst (λ k. Means more both (Product k (kind_at kinds other))) (h.source.is ∙ sym (from_stays i a b h)) m))

  pub second_later : (i a b other both : ℕ) → HasArrow kinds rows i a b → Means more both (Product (kind_at kinds other) (kind_at kinds a)) → Made more rows (row_of (code.Drop i) both b) (on_second (kind_at kinds other) (at i))
  second_later i a b other both h m =
      subst (λ t. Made more rows (row_of (code.Drop i) both b) (on_second (kind_at kinds other) t)) (stays i h.within)
      (second_made more rows i a b both (kind_at kinds other) (later i a b h) (subst (λ k. Means more both (Product (kind_at kinds other) k)) (h.source.is ∙ sym (from_stays i a b h)) m))

  pub left_later : (i a b other either : ℕ) → HasArrow kinds rows i a b → Means more either (Sum (kind_at kinds b) (kind_at kinds other)) → Made more rows (row_of (code.Injl i) a either) (to_left (kind_at kinds other) (at i))
  left_later i a b other either h m =
      subst (λ t. Made more rows (row_of (code.Injl i) a either) (to_left (kind_at kinds other) t)) (stays i h.within)
      (left_made more rows i a b either (kind_at kinds other) (later i a b h) (subst (λ k. Means more either (Sum k (kind_at kinds other))) (h.target.is ∙ sym (to_stays i a b h)) m))

  pub right_later : (i a b other either : ℕ) → HasArrow kinds rows i a b → Means more either (Sum (kind_at kinds other) (kind_at kinds b)) → Made more rows (row_of (code.Injr i) a either) (to_right (kind_at kinds other) (at i))
  right_later i a b other either h m =
      subst (λ t. Made more rows (row_of (code.Injr i) a either) (to_right (kind_at kinds other) t)) (stays i h.within)
      (right_made more rows i a b either (kind_at kinds other) (later i a b h) (subst (λ k. Means more either (Sum (kind_at kinds other) k)) (h.target.is ∙ sym (to_stays i a b h)) m))

  pub unit_later : (a one : ℕ) → a < length kinds → Means more one One → Made more rows (row_of code.Unit a one) (unit (kind_at kinds a))
  unit_later a one within m = rows_are_made.unit more rows a one (kind_at kinds a) (types.means_grown kinds more a (kind_at kinds a) grown (record { within = within; is = refl })) m

  pub tag_later : (i j a b tagged : ℕ) (k l m : Kind) → HasArrow kinds rows i a b → j < length rows → source (at i) ≡ Product k m → source (at j) ≡ Product l m → target (at j) ≡ target (at i) →
      Means more tagged (Product (Sum k l) m) → Made more rows (row_of (code.Case i j) tagged b) (by_tag k l m (at i) (at j))
  tag_later i j a b tagged k l m h within e f same is =
      let stays_j = stays j within in
      subst (λ s. Made more rows (row_of (code.Case i j) tagged b) (by_tag k l m s (at j))) (stays i h.within)
      (subst (λ t. Made more rows (row_of (code.Case i j) tagged b) (by_tag k l m (term_at more rows i) t)) stays_j
      (tag_made more rows i j a b tagged k l m (later i a b h) within (from_stays i a b h ∙ e) (ap source stays_j ∙ f) (ap target stays_j ∙ same ∙ sym (to_stays i a b h)) is))

  pub only_left_later : (i a b tagged : ℕ) (k l m : Kind) (hidden : List ℕ) → HasArrow kinds rows i a b → source (at i) ≡ Product k m → Means more tagged (Product (Sum k l) m) → hidden ≡ fail_root →
      Made more rows (row_of (code.AssertL i hidden) tagged b) (only_left k l m (at i))
  only_left_later i a b tagged k l m hidden h e is fails =
      subst (λ r. Made more rows (row_of (code.AssertL i r) tagged b) (only_left k l m (at i))) (sym fails)
      (subst (λ t. Made more rows (row_of (code.AssertL i fail_root) tagged b) (only_left k l m t)) (stays i h.within) (only_left_made more rows i a b tagged k l m (later i a b h) (from_stays i a b h ∙ e) is))

  pub only_right_later : (i a b tagged : ℕ) (k l m : Kind) (hidden : List ℕ) → HasArrow kinds rows i a b → source (at i) ≡ Product l m → Means more tagged (Product (Sum k l) m) → hidden ≡ fail_root →
      Made more rows (row_of (code.AssertR hidden i) tagged b) (only_right k l m (at i))
  only_right_later i a b tagged k l m hidden h e is fails =
      subst (λ r. Made more rows (row_of (code.AssertR r i) tagged b) (only_right k l m (at i))) (sym fails)
      (subst (λ t. Made more rows (row_of (code.AssertR fail_root i) tagged b) (only_right k l m t)) (stays i h.within) (only_right_made more rows i a b tagged k l m (later i a b h) (from_stays i a b h ∙ e) is))
