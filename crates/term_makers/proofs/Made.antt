-- Rows for the terms that are made of terms.
use Rattle.std.proofs.Common.{◌≡◌, ℕ, zero, suc, ◌<◌, List, [], ◌∷◌, ◌++◌, length, Some, refl, sym, ap, ◌∙◌, subst}
use Rattle.std.specs.Prelude.{slice_get}
use Rattle.jets.specs.Unsigned.{Unsigned}
use Rattle.simplicity.proofs.Arrows.{starts, goes}
use Rattle.simplicity.specs.Arrows.{source, target, declared_arrow}
use Rattle.simplicity.specs.Canon.{Declared}
use Rattle.simplicity.specs.Makes.{fail_root, iden, unit, comp, pair, on_first, on_second, to_left, to_right, by_tag, fail, only_left, only_right, word, witness}
use Rattle.simplicity.specs.Types.{Kind, One, Sum, Product, word_kind}
use Rattle.simplicity.specs.Typing.{Arrow, arrow}
use Rattle.simplicity.specs.Widths.{level_of}
use Rattle.type_table.specs.Kinds.{kind_at, Means}
use Rattle.term_core.specs.declared.table_node.Node.{Node}
use Rattle.term_core.specs.declared.table_node.Node.TheVariants as code
use Rattle.term_core.specs.declared.table_node.TermRow.{TermRow}
use Rattle.term_core.specs.Rows.{row_of}
use Rattle.term_core.specs.Terms.{node_term, row_term, terms, term_at, FollowFrom, StandsOver, MeansTerm, MayFollow}
use Rattle.term_core.proofs.Follow.{iden_follows, unit_follows, fail_follows, witness_follows, word_follows, injl_follows, injr_follows, take_follows, drop_follows, assertl_follows, assertr_follows, comp_follows, case_follows, pair_follows}
use Rattle.term_core.proofs.Growth.{means_there}
use Rattle.term_makers.specs.Made.{HasArrow, Made, ArrowsAreTold, RowsAreMade}

node_arrow : (ts : List Declared) (n : Node) (a : Arrow) → declared_arrow (node_term ts n a) ≡ a
node_arrow ts code.Iden a = refl
node_arrow ts code.Unit a = refl
node_arrow ts (code.Injl i) a = refl
node_arrow ts (code.Injr i) a = refl
node_arrow ts (code.Take i) a = refl
node_arrow ts (code.Drop i) a = refl
node_arrow ts (code.Comp i j) a = refl
node_arrow ts (code.Case i j) a = refl
node_arrow ts (code.Pair i j) a = refl
node_arrow ts (code.AssertL i h) a = refl
node_arrow ts (code.AssertR h i) a = refl
node_arrow ts code.Fail a = refl
node_arrow ts (code.Witness n) a = refl
node_arrow ts (code.Word w) a = refl

-- the types of a row that stands are in the table
types_there : (kinds : List Kind) (ts : List Declared) (rows : List TermRow) (id : ℕ) (row : TermRow) → FollowFrom kinds ts rows → slice_get rows id ≡ Some row → (row.source < length kinds) × (row.target < length kinds)
types_there kinds ts [] id row f h = absurd (cc)
types_there kinds ts (first ∷ rows) zero row f h = let is : first ≡ row = cc in subst (λ (r : TermRow). (r.source < length kinds) × (r.target < length kinds)) is (f.0.source, f.0.target)
types_there kinds ts (first ∷ rows) (suc id) row f h = types_there kinds (ts ++ row_term kinds ts first ∷ []) rows id row f.1 h

told : (kinds : List Kind) (rows : List TermRow) (id : ℕ) (row : TermRow) → StandsOver kinds rows → slice_get rows id ≡ Some row → HasArrow kinds rows id row.source row.target
told kinds rows id row stands there =
    let m = means_there kinds rows id row stands there in
    let in_table = types_there kinds [] rows id row stands.each there in
    let is : declared_arrow (term_at kinds rows id) ≡ arrow (kind_at kinds row.source) (kind_at kinds row.target) =
    ap declared_arrow m.is ∙ node_arrow (terms kinds rows) row.node (arrow (kind_at kinds row.source) (kind_at kinds row.target)) in
    record {
      within = m.within;
      source = record { within = in_table.0; is = sym (ap (λ (a : Arrow). a.source) is) };
      target = record { within = in_table.1; is = sym (ap (λ (a : Arrow). a.target) is) };
    }

pub arrows_are_told : ArrowsAreTold
arrows_are_told kinds rows id from to stands h =
    subst (λ a. HasArrow kinds rows id a to) h.2.0 (subst (HasArrow kinds rows id h.0.source) h.2.1 (told kinds rows id h.0 stands h.1))

module _ (kinds : List Kind) (rows : List TermRow) where
  abbrev at : ℕ → Declared
  at i = term_at kinds rows i

  child : (i a b : ℕ) → HasArrow kinds rows i a b → MeansTerm kinds rows i (at i)
  child i a b h = record { within = h.within; is = refl }

  -- a row's term by the types that its ids mean
  as_term : (n : Node) (a b : ℕ) (k l : Kind) → Means kinds a k → Means kinds b l → row_term kinds (terms kinds rows) (row_of n a b) ≡ node_term (terms kinds rows) n (arrow k l)
  as_term n a b k l s t = ap (λ j. node_term (terms kinds rows) n (arrow j (kind_at kinds b))) s.is ∙ ap (λ j. node_term (terms kinds rows) n (arrow k j)) t.is

  pub comp_made : (i j a b c d : ℕ) → HasArrow kinds rows i a b → HasArrow kinds rows j c d → target (at i) ≡ source (at j) → Made kinds rows (row_of (code.Comp i j) a d) (comp (at i) (at j))
  comp_made i j a b c d h g meets = record {
    follows = comp_follows kinds rows a d i j (at i) (at j) (source (at i)) (target (at i)) (target (at j)) (child i a b h) (child j c d g) refl (starts (at j) (target (at i)) (sym meets)) h.source g.target;
    means = as_term (code.Comp i j) a d (source (at i)) (target (at j)) h.source g.target;
  }

  pub pair_made : (i j a b c d both : ℕ) → HasArrow kinds rows i a b → HasArrow kinds rows j c d → source (at j) ≡ source (at i) → Means kinds both (Product (target (at i)) (target (at j))) →
      Made kinds rows (row_of (code.Pair i j) a both) (pair (at i) (at j))
  pair_made i j a b c d both h g meets to = record {
    follows = pair_follows kinds rows a both i j (at i) (at j) (source (at i)) (target (at i)) (target (at j)) (child i a b h) (child j c d g) refl (starts (at j) (source (at i)) meets) h.source to;
    means = as_term (code.Pair i j) a both (source (at i)) (Product (target (at i)) (target (at j))) h.source to;
  }

  pub tag_made : (i j a b tagged : ℕ) (k l m : Kind) → HasArrow kinds rows i a b → j < length rows → source (at i) ≡ Product k m → source (at j) ≡ Product l m → target (at j) ≡ target (at i) →
      Means kinds tagged (Product (Sum k l) m) → Made kinds rows (row_of (code.Case i j) tagged b) (by_tag k l m (at i) (at j))
  tag_made i j a b tagged k l m h within e f same from = record {
    follows = case_follows kinds rows tagged b i j (at i) (at j) k l m (target (at i)) (child i a b h) (record { within = within; is = refl }) (starts (at i) (Product k m) e) (goes (at j) (Product l m) (target (at i)) f same) from h.target;
    means = as_term (code.Case i j) tagged b (Product (Sum k l) m) (target (at i)) from h.target;
  }

  pub only_left_made : (i a b tagged : ℕ) (k l m : Kind) → HasArrow kinds rows i a b → source (at i) ≡ Product k m → Means kinds tagged (Product (Sum k l) m) → Made kinds rows (row_of (code.AssertL i fail_root) tagged b) (only_left k l m (at i))
  only_left_made i a b tagged k l m h e from = record {
    follows = assertl_follows kinds rows tagged b i (at i) fail_root k l m (target (at i)) (child i a b h) (starts (at i) (Product k m) e) from h.target;
    means = as_term (code.AssertL i fail_root) tagged b (Product (Sum k l) m) (target (at i)) from h.target;
  }

  pub only_right_made : (i a b tagged : ℕ) (k l m : Kind) → HasArrow kinds rows i a b → source (at i) ≡ Product l m → Means kinds tagged (Product (Sum k l) m) → Made kinds rows (row_of (code.AssertR fail_root i) tagged b) (only_right k l m (at i))
  only_right_made i a b tagged k l m h e from = record {
    follows = assertr_follows kinds rows tagged b i (at i) fail_root k l m (target (at i)) (child i a b h) (starts (at i) (Product l m) e) from h.target;
    means = as_term (code.AssertR fail_root i) tagged b (Product (Sum k l) m) (target (at i)) from h.target;
  }

  pub first_made : (i a b both : ℕ) (k : Kind) → HasArrow kinds rows i a b → Means kinds both (Product (source (at i)) k) → Made kinds rows (row_of (code.Take i) both b) (on_first k (at i))
  first_made i a b both k h from = record {
    follows = take_follows kinds rows both b i (at i) (source (at i)) k (target (at i)) (child i a b h) refl from h.target;
    means = as_term (code.Take i) both b (Product (source (at i)) k) (target (at i)) from h.target;
  }

  pub second_made : (i a b both : ℕ) (k : Kind) → HasArrow kinds rows i a b → Means kinds both (Product k (source (at i))) → Made kinds rows (row_of (code.Drop i) both b) (on_second k (at i))
  second_made i a b both k h from = record {
    follows = drop_follows kinds rows both b i (at i) k (source (at i)) (target (at i)) (child i a b h) refl from h.target;
    means = as_term (code.Drop i) both b (Product k (source (at i))) (target (at i)) from h.target;
  }

  pub left_made : (i a b either : ℕ) (k : Kind) → HasArrow kinds rows i a b → Means kinds either (Sum (target (at i)) k) → Made kinds rows (row_of (code.Injl i) a either) (to_left k (at i))
  left_made i a b either k h to = record {
    follows = injl_follows kinds rows a either i (at i) (source (at i)) (target (at i)) k (child i a b h) refl h.source to;
    means = as_term (code.Injl i) a either (source (at i)) (Sum (target (at i)) k) h.source to;
  }

  pub right_made : (i a b either : ℕ) (k : Kind) → HasArrow kinds rows i a b → Means kinds either (Sum k (target (at i))) → Made kinds rows (row_of (code.Injr i) a either) (to_right k (at i))
  right_made i a b either k h to = record {
    follows = injr_follows kinds rows a either i (at i) (source (at i)) k (target (at i)) (child i a b h) refl h.source to;
    means = as_term (code.Injr i) a either (source (at i)) (Sum k (target (at i))) h.source to;
  }

pub rows_are_made : RowsAreMade
rows_are_made = record {
  iden = λ kinds rows a k s. record { follows = iden_follows kinds rows a a k s s; means = as_term kinds rows code.Iden a a k k s s };
  unit = λ kinds rows a one k s t. record { follows = unit_follows kinds rows a one k s t; means = as_term kinds rows code.Unit a one k One s t };
  fail = λ kinds rows a b k l s t. record { follows = fail_follows kinds rows a b k l s t; means = as_term kinds rows code.Fail a b k l s t };
  witness = λ kinds rows n a b k l s t. record { follows = witness_follows kinds rows a b n k l s t; means = as_term kinds rows (code.Witness n) a b k l s t };
  word = λ kinds rows u one b s t. record { follows = word_follows kinds rows one b u s t; means = as_term kinds rows (code.Word u) one b One (word_kind (level_of u.width)) s t };
  comp = comp_made;
  pair = pair_made;
  on_first = first_made;
  on_second = second_made;
  to_left = left_made;
  to_right = right_made;
  by_tag = tag_made;
  only_left = only_left_made;
  only_right = only_right_made;
}
