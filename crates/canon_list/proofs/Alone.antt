-- Where each witness row has one place in a row's term, each witness node has one in the tree of the list of rows.
use Rattle.std.proofs.Common.{◌≡◌, refl, ap, sym, subst, ◌∙◌, ℕ, zero, suc, ◌+◌, ◌-◌, ◌<◌, Bool, true, false, ◌||◌, List, [], ◌∷◌, ◌++◌, length, map, Option, Some, arith, eqb-true, eq-eqb}
use Rattle.std.specs.Prelude.{slice_get, nat_eq}
use Rattle.std.proofs.lemmas.List.{map-append}
use Rattle.simplicity.specs.Types.{Kind}
use Rattle.simplicity.specs.Nodes as node
use Rattle.simplicity.specs.Nodes.{Node, AreUnder, children}
use Rattle.simplicity.specs.Order.{has, children_of}
use Rattle.sharing.specs.Leaves.{own_leaf, each_in, leaf_nodes, NoneTwice}
use Rattle.sharing.proofs.Closed.{AllOf}
use Rattle.sharing.proofs.Merging.{there_at}
use Rattle.sharing.proofs.Merged.{Split, Less, More, split}
use Rattle.infer_cells.specs.declared.typing.NodeArrow.{NodeArrow}
use Rattle.term_core.specs.declared.table_node.Node.{Node as RowNode}
use Rattle.term_core.specs.declared.table_node.Node.TheVariants as code
use Rattle.term_core.specs.declared.table_node.TermRow.{TermRow}
use Rattle.term_core.specs.Terms.{child_ids, StandsOver}
use Rattle.row_lists.specs.Rows.{listed, SideAt, IsRowList}
use Rattle.row_lists.proofs.Meaning.{children_below}
use Rattle.canon_list.specs.Leaves.{own_row, leaves_by, leaf_rows, WitnessesAreAlone}

side_leaf : (ns : List Node) (d h : ℕ) (b : List ℕ) → slice_get ns h ≡ Some (node.Hidden b) → leaf_nodes ns d h ≡ []
side_leaf ns zero h b e = refl
side_leaf ns (suc d) h b e = ap (λ (o : Option Node). own_leaf o h ++ each_in (leaf_nodes ns d) (children_of o)) e

module _ (place : ℕ → ℕ) where
  one : (xs : List ℕ) (cs : List ℕ) → xs ≡ map place cs → xs ++ [] ≡ map place (cs ++ [])
  one xs cs e = ap (λ (l : List ℕ). l ++ []) e ∙ sym (map-append place cs [])

  two : (xs ys : List ℕ) (cs bs : List ℕ) → xs ≡ map place cs → ys ≡ map place bs → xs ++ (ys ++ []) ≡ map place (cs ++ (bs ++ []))
  two xs ys cs bs e g =
      ap (λ (l : List ℕ). l ++ (ys ++ [])) e ∙ ap (λ (l : List ℕ). map place cs ++ l) (one ys bs g) ∙ sym (map-append place cs (bs ++ []))

  left_none : (xs ys : List ℕ) (cs : List ℕ) → xs ≡ map place cs → ys ≡ [] → xs ++ (ys ++ []) ≡ map place (cs ++ [])
  left_none xs ys cs e g = ap (λ (l : List ℕ). xs ++ (l ++ [])) g ∙ one xs cs e

  right_none : (xs ys : List ℕ) (bs : List ℕ) → xs ≡ [] → ys ≡ map place bs → xs ++ (ys ++ []) ≡ map place (bs ++ [])
  right_none xs ys bs e g = ap (λ (l : List ℕ). l ++ (ys ++ [])) e ∙ one ys bs g

-- lists without repeats
or_false : (a b : Bool) → (a || b) ≡ false → (a ≡ false) × (b ≡ false)
or_false true b h = absurd (cc)
or_false false b h = (refl, h)

not_equal : (x y : ℕ) (b : Bool) → nat_eq x y ≡ b → (x ≡ y → ⊥) → nat_eq x y ≡ false
not_equal x y true e apart = absurd (apart (eqb-true x y e))
not_equal x y false e apart = e

neither : (a b : Bool) → a ≡ false → b ≡ false → (a || b) ≡ false
neither true b e g = absurd (cc)
neither false b e g = g

module _ (n : ℕ) (f : ℕ → ℕ) (apart : (i j : ℕ) → i < n → j < n → f i ≡ f j → i ≡ j) where
  none_mapped : (i : ℕ) (is : List ℕ) → i < n → AreUnder n is → has i is ≡ false → has (f i) (map f is) ≡ false
  none_mapped i [] l under h = refl
  none_mapped i (j ∷ is) l under h =
      let both = or_false (nat_eq i j) (has i is) h in
      let first = not_equal (f i) (f j) (nat_eq (f i) (f j)) refl (λ e. let yes : nat_eq i j ≡ true = eq-eqb i j (apart i j l under.0 e) in let no_more = both.0 in absurd (cc)) in
      neither (nat_eq (f i) (f j)) (has (f i) (map f is)) first (none_mapped i is l under.1 both.1)

  pub once_mapped : (is : List ℕ) → AreUnder n is → NoneTwice is → NoneTwice (map f is)
  once_mapped [] under once = tt
  once_mapped (i ∷ is) under once = (none_mapped i is under.0 under.1 once.0, once_mapped is under.1 once.1)

under_append : (n : ℕ) (xs ys : List ℕ) → AreUnder n xs → AreUnder n ys → AreUnder n (xs ++ ys)
under_append n [] ys h g = g
under_append n (x ∷ xs) ys h g = (h.0, under_append n xs ys h.1 g)

each_under : (f : ℕ → List ℕ) (n k : ℕ) (is : List ℕ) → AreUnder k is → ((i : ℕ) → i < k → AreUnder n (f i)) → AreUnder n (each_in f is)
each_under f n k [] under on = tt
each_under f n k (i ∷ is) under on = under_append n (f i) (each_in f is) (on i under.0) (each_under f n k is under.1 on)

own_under : (m : RowNode) (id n : ℕ) → id < n → AreUnder n (own_row m id)
own_under (code.Witness w) id n l = (l, tt)
own_under code.Iden id n l = tt
own_under code.Unit id n l = tt
own_under (code.Injl i) id n l = tt
own_under (code.Injr i) id n l = tt
own_under (code.Take i) id n l = tt
own_under (code.Drop i) id n l = tt
own_under (code.Comp i j) id n l = tt
own_under (code.Case i j) id n l = tt
own_under (code.Pair i j) id n l = tt
own_under (code.AssertL i b) id n l = tt
own_under (code.AssertR b i) id n l = tt
own_under code.Fail id n l = tt
own_under (code.Word w) id n l = tt

each_of : (P : ℕ → Type 0) (n : ℕ) (is : List ℕ) → AreUnder n is → ((i : ℕ) → i < n → P i) → AllOf P is
each_of P n [] under on = tt
each_of P n (i ∷ is) under on = (on i under.0, each_of P n is under.1 on)

module _ (kinds : List Kind) (rows : List TermRow) (root : ℕ) (ns : List Node) (arrows : List (Option NodeArrow)) (names : List ℕ) (is : IsRowList kinds rows root ns arrows names)
    (stands : StandsOver kinds rows) (within : root < length rows) where
  abbrev place : ℕ → ℕ
  place = is.place

  abbrev Alike : ℕ → ℕ → ℕ → Type 0
  Alike d e i = leaf_nodes ns d (place i) ≡ map place (leaf_rows rows e i)

  node_leaves : (m : RowNode) (id hidden d e : ℕ) → SideAt ns arrows hidden m → AllOf (Alike d e) (child_ids m) →
      own_leaf (Some (listed place hidden m)) (place id) ++ each_in (leaf_nodes ns d) (children (listed place hidden m)) ≡ map place (own_row m id ++ each_in (leaf_rows rows e) (child_ids m))
  node_leaves code.Iden id hidden d e side all = refl
  node_leaves code.Unit id hidden d e side all = refl
  node_leaves (code.Injl i) id hidden d e side all = one place (leaf_nodes ns d (place i)) (leaf_rows rows e i) all.0
  node_leaves (code.Injr i) id hidden d e side all = one place (leaf_nodes ns d (place i)) (leaf_rows rows e i) all.0
  node_leaves (code.Take i) id hidden d e side all = one place (leaf_nodes ns d (place i)) (leaf_rows rows e i) all.0
  node_leaves (code.Drop i) id hidden d e side all = one place (leaf_nodes ns d (place i)) (leaf_rows rows e i) all.0
  node_leaves (code.Comp i j) id hidden d e side all = two place (leaf_nodes ns d (place i)) (leaf_nodes ns d (place j)) (leaf_rows rows e i) (leaf_rows rows e j) all.0 all.1.0
  node_leaves (code.Case i j) id hidden d e side all = two place (leaf_nodes ns d (place i)) (leaf_nodes ns d (place j)) (leaf_rows rows e i) (leaf_rows rows e j) all.0 all.1.0
  node_leaves (code.Pair i j) id hidden d e side all = two place (leaf_nodes ns d (place i)) (leaf_nodes ns d (place j)) (leaf_rows rows e i) (leaf_rows rows e j) all.0 all.1.0
  node_leaves (code.AssertL i b) id hidden d e side all = left_none place (leaf_nodes ns d (place i)) (leaf_nodes ns d hidden) (leaf_rows rows e i) all.0 (side_leaf ns d hidden b side.0)
  node_leaves (code.AssertR b i) id hidden d e side all = right_none place (leaf_nodes ns d hidden) (leaf_nodes ns d (place i)) (leaf_rows rows e i) (side_leaf ns d hidden b side.0) all.0
  node_leaves code.Fail id hidden d e side all = refl
  node_leaves (code.Witness w) id hidden d e side all = refl
  node_leaves (code.Word w) id hidden d e side all = refl

  leaves_alike : (e d id : ℕ) → id < e → id < root + 1 → place id < d → Alike d e id
  leaves_alike zero d id l m p = absurd (omega (arith, l))
  leaves_alike (suc e) zero id l m p = absurd (omega (arith, p))
  leaves_alike (suc e) (suc d) id l m p =
      let row = there_at rows id (omega (arith, m, within)) in
      let at = is.each id row.0 m row.1 in
      let under = children_below kinds rows id row.0 stands row.1 in
      let all = each_of (Alike d e) id (child_ids row.0.node) under
      (λ i k. let lower = is.grows i id k m in leaves_alike e d i (omega (arith, k, l)) (omega (arith, k, m)) (omega (arith, lower, p))) in
      ap (λ (o : Option Node). own_leaf o (place id) ++ each_in (leaf_nodes ns d) (children_of o)) at.node
      ∙ node_leaves row.0.node id at.hidden d e at.side all ∙ ap (λ (o : Option TermRow). map place (leaves_by (leaf_rows rows e) id o)) (sym row.1)

  rows_under : (e id : ℕ) → id < root + 1 → AreUnder (root + 1) (leaf_rows rows e id)
  rows_under zero id m = tt
  rows_under (suc e) id m =
      let row = there_at rows id (omega (arith, m, within)) in
      let under = children_below kinds rows id row.0 stands row.1 in
      subst (λ (o : Option TermRow). AreUnder (root + 1) (leaves_by (leaf_rows rows e) id o)) (sym row.1)
      (under_append (root + 1) (own_row row.0.node id) (each_in (leaf_rows rows e) (child_ids row.0.node)) (own_under row.0.node id (root + 1) m)
      (each_under (leaf_rows rows e) (root + 1) id (child_ids row.0.node) under (λ i k. rows_under e i (omega (arith, k, m)))))

  places_by : (i j : ℕ) → i < root + 1 → j < root + 1 → place i ≡ place j → Split i j → Split j i → i ≡ j
  places_by i j l m e (Less h) other = let g = is.grows i j h m in absurd (omega (arith, g, e))
  places_by i j l m e (More h) (Less k) = let g = is.grows j i k l in absurd (omega (arith, g, e))
  places_by i j l m e (More h) (More k) = omega (arith, h, k)

  places_apart : (i j : ℕ) → i < root + 1 → j < root + 1 → place i ≡ place j → i ≡ j
  places_apart i j l m e = places_by i j l m e (split i j) (split j i)

  pub nodes_alone : WitnessesAreAlone rows root → NoneTwice (leaf_nodes ns (length ns) (length ns - 1))
  nodes_alone alone =
      let last = is.last in
      let full = is.full in
      let same = leaves_alike (suc root) (length ns) root (omega arith) (omega arith) (omega (arith, last, full)) in
      let once = once_mapped (root + 1) place places_apart (leaf_rows rows (suc root) root) (rows_under (suc root) root (omega arith)) alone in
      subst (λ (i : ℕ). NoneTwice (leaf_nodes ns (length ns) i)) last (subst NoneTwice (sym same) once)
