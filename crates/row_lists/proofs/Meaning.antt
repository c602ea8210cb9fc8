-- The node of a row stands for the row's term.
use Rattle.std.proofs.Common.{◌≡◌, ℕ, zero, suc, ◌+◌, ◌<◌, ◌≤◌, List, [], ◌∷◌, ◌++◌, length, sym, ap, ◌∙◌, subst, arith, Option, Some, None, slice_get, length-append}
use Rattle.std.specs.Prelude.{replicate}
use Rattle.std.specs.Option.{option_map}
use Rattle.std.proofs.lemmas.Option.{slice_get-map}
use Rattle.simplicity.specs.Types.{Kind}
use Rattle.simplicity.specs.Nodes.{Node, AreUnder}
use Rattle.simplicity.specs.Typing.{Arrow, arrow}
use Rattle.simplicity.specs.Canon as declared
use Rattle.simplicity.specs.Canon.{Declared, Stands}
use Rattle.simplicity.specs.Widths.{level_of}
use Rattle.sharing.proofs.Merging.{there_at}
use Rattle.type_table.specs.Kinds.{kind_at}
use Rattle.infer_cells.specs.declared.typing.NodeArrow.{NodeArrow}
use Rattle.infer_cells.specs.Typings.{arrow_in, typing_in}
use Rattle.term_core.specs.declared.table_node.Node.{Node as RowNode}
use Rattle.term_core.specs.declared.table_node.Node.TheVariants as code
use Rattle.term_core.specs.declared.table_node.TermRow.{TermRow}
use Rattle.term_core.specs.Terms.{child_ids, term_of, node_term, row_term, terms, term_at, FollowFrom, StandsOver}
use Rattle.term_core.proofs.Growth.{means_there}
use Rattle.row_lists.specs.Rows.{listed, SideAt, NameAt, AreListed}

-- children have lower ids than their parents
under_at : (m n : ℕ) (is : List ℕ) → m ≡ n → AreUnder m is → AreUnder n is
under_at m n is e under = subst (λ (k : ℕ). AreUnder k is) e under

below_after : (kinds : List Kind) (ts : List Declared) (rows : List TermRow) (id : ℕ) (row : TermRow) → FollowFrom kinds ts rows → slice_get rows id ≡ Some row → AreUnder (length ts + id) (child_ids row.node)
below_after kinds ts [] id row f h = absurd (cc)
below_after kinds ts (first ∷ rows) zero row f h =
    let is : first ≡ row = cc in
    subst (λ (r : TermRow). AreUnder (length ts + 0) (child_ids r.node)) is (under_at (length ts) (length ts + 0) (child_ids first.node) (omega arith) f.0.children)
below_after kinds ts (first ∷ rows) (suc id) row f h =
    let longer : length (ts ++ row_term kinds ts first ∷ []) + id ≡ length ts + suc id = omega (arith, length-append ts (row_term kinds ts first ∷ [])) in
    under_at (length (ts ++ row_term kinds ts first ∷ []) + id) (length ts + suc id) (child_ids row.node) longer (below_after kinds (ts ++ row_term kinds ts first ∷ []) rows id row f.1 h)

pub children_below : (kinds : List Kind) (rows : List TermRow) (id : ℕ) (row : TermRow) → StandsOver kinds rows → slice_get rows id ≡ Some row → AreUnder id (child_ids row.node)
children_below kinds rows id row stands h =
    let none : 0 + id ≡ id = omega arith in
    under_at (0 + id) id (child_ids row.node) none (below_after kinds [] rows id row stands.each h)

types_after : (kinds : List Kind) (ts : List Declared) (rows : List TermRow) (id : ℕ) (row : TermRow) → FollowFrom kinds ts rows → slice_get rows id ≡ Some row → (row.source < length kinds) × (row.target < length kinds)
types_after kinds ts [] id row f h = absurd (cc)
types_after kinds ts (first ∷ rows) zero row f h =
    let is : first ≡ row = cc in
    subst (λ (r : TermRow). (r.source < length kinds) × (r.target < length kinds)) is (f.0.source, f.0.target)
types_after kinds ts (first ∷ rows) (suc id) row f h = types_after kinds (ts ++ row_term kinds ts first ∷ []) rows id row f.1 h

-- a row's types are in their table
pub types_there : (kinds : List Kind) (rows : List TermRow) (id : ℕ) (row : TermRow) → StandsOver kinds rows → slice_get rows id ≡ Some row → (row.source < length kinds) × (row.target < length kinds)
types_there kinds rows id row stands h = types_after kinds [] rows id row stands.each h

pub arrow_means : (kinds : List Kind) (arrows : List (Option NodeArrow)) (p : ℕ) (a : Option NodeArrow) → slice_get arrows p ≡ Some a → slice_get (typing_in kinds arrows) p ≡ Some (arrow_in kinds a)
arrow_means kinds arrows p a h = slice_get-map (arrow_in kinds) arrows p ∙ ap (option_map (arrow_in kinds)) h

-- a fact of each of these numbers
abbrev EachOf : (ℕ → Type 0) → List ℕ → Type 0
EachOf P [] = Unit {0}
EachOf P (i ∷ is) = P i × EachOf P is

each_below : (P : ℕ → Type 0) (n : ℕ) (is : List ℕ) → AreUnder n is → ((i : ℕ) → i < n → P i) → EachOf P is
each_below P n [] under on = tt
each_below P n (i ∷ is) under on = (on i under.0, each_below P n is under.1 on)

module _ (kinds : List Kind) (ns : List Node) (arrows : List (Option NodeArrow)) (names : List ℕ) (place : ℕ → ℕ) (ts : List Declared) where
  abbrev ChildStands : ℕ → Type 0
  ChildStands i = Stands ns (typing_in kinds arrows) names (place i) (term_of ts i)

  node_stands : (n : RowNode) (p hidden : ℕ) (a : Arrow) → slice_get ns p ≡ Some (listed place hidden n) → slice_get (typing_in kinds arrows) p ≡ Some (Some a) →
      SideAt ns arrows hidden n → NameAt ns names p n → EachOf ChildStands (child_ids n) → Stands ns (typing_in kinds arrows) names p (node_term ts n a)
  node_stands code.Iden p hidden a is d side name all = declared.StandsIden p a is d
  node_stands code.Unit p hidden a is d side name all = declared.StandsUnit p a is d
  node_stands (code.Injl i) p hidden a is d side name all = declared.StandsInjl p (place i) a (term_of ts i) is d all.0
  node_stands (code.Injr i) p hidden a is d side name all = declared.StandsInjr p (place i) a (term_of ts i) is d all.0
  node_stands (code.Take i) p hidden a is d side name all = declared.StandsTake p (place i) a (term_of ts i) is d all.0
  node_stands (code.Drop i) p hidden a is d side name all = declared.StandsDrop p (place i) a (term_of ts i) is d all.0
  node_stands (code.Comp i j) p hidden a is d side name all = declared.StandsComp p (place i) (place j) a (term_of ts i) (term_of ts j) is d all.0 all.1.0
  node_stands (code.Case i j) p hidden a is d side name all = declared.StandsCase p (place i) (place j) a (term_of ts i) (term_of ts j) is d all.0 all.1.0
  node_stands (code.Pair i j) p hidden a is d side name all = declared.StandsPair p (place i) (place j) a (term_of ts i) (term_of ts j) is d all.0 all.1.0
  node_stands (code.AssertL i b) p hidden a is d side name all = declared.StandsAssertL p (place i) hidden a (term_of ts i) b is d all.0 side.0 (arrow_means kinds arrows hidden None side.1)
  node_stands (code.AssertR b i) p hidden a is d side name all = declared.StandsAssertR p hidden (place i) a b (term_of ts i) is d side.0 (arrow_means kinds arrows hidden None side.1) all.0
  node_stands code.Fail p hidden a is d side name all = declared.StandsFail p a (replicate 64 0) is d
  node_stands (code.Witness n) p hidden a is d side name all = declared.StandsWitness p n a is d name
  node_stands (code.Word w) p hidden a is d side name all = declared.StandsWord p (level_of w.width) w.number a is d

module _ (kinds : List Kind) (rows : List TermRow) (count : ℕ) (ns : List Node) (arrows : List (Option NodeArrow)) (names : List ℕ) (place : ℕ → ℕ)
    (stands : StandsOver kinds rows) (within : count ≤ length rows) (each : AreListed rows count ns arrows names place) where
  abbrev IdStands : ℕ → Type 0
  IdStands id = Stands ns (typing_in kinds arrows) names (place id) (term_at kinds rows id)

  stands_under : (depth id : ℕ) → id < depth → id < count → IdStands id
  stands_under zero id h g = absurd (omega (arith, h))
  stands_under (suc depth) id h g =
      let row = there_at rows id (omega (arith, g, within)) in
      let at = each id row.0 g row.1 in
      let means = means_there kinds rows id row.0 stands row.1 in
      let a = arrow (kind_at kinds row.0.source) (kind_at kinds row.0.target) in
      subst (λ (t : Declared). Stands ns (typing_in kinds arrows) names (place id) t) (sym means.is)
      (node_stands kinds ns arrows names place (terms kinds rows) row.0.node (place id) at.hidden a at.node (arrow_means kinds arrows (place id) (Some (record { source = row.0.source; target = row.0.target })) at.arrow)
      at.side at.name (each_below IdStands id (child_ids row.0.node) (children_below kinds rows id row.0 stands row.1) (λ i l. stands_under depth i (omega (arith, l, h)) (omega (arith, l, g)))))

  pub row_stands : (id : ℕ) → id < count → Stands ns (typing_in kinds arrows) names (place id) (term_at kinds rows id)
  row_stands id g = stands_under (suc id) id (omega arith) g
