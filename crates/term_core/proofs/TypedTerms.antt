-- The terms of a table are typed at every place.
use Rattle.std.proofs.Common.{ℕ, zero, suc, ◌<◌, List, [], ◌∷◌, ◌++◌, length, arith}
use Rattle.simplicity.specs.Types.{Kind}
use Rattle.simplicity.specs.Nodes.{AreUnder}
use Rattle.simplicity.specs.Typing.{Arrow}
use Rattle.simplicity.specs.Canon.{Declared}
use Rattle.simplicity.specs.Arrows.{MeetsRow, IsTypedTerm}
use Rattle.term_core.specs.declared.table_node.Node.{Node}
use Rattle.term_core.specs.declared.table_node.Node.TheVariants as code
use Rattle.term_core.specs.declared.table_node.TermRow.{TermRow}
use Rattle.term_core.specs.Terms.{child_ids, term_of, node_term, row_term, terms_after, FollowFrom}
use Rattle.term_core.specs.Laws.{TermsAreTyped}
use Rattle.term_core.proofs.Growth.{length-terms}

AreTyped : List Declared → Type 0
AreTyped ts = (i : ℕ) → i < length ts → IsTypedTerm (term_of ts i)

node_typed : (ts : List Declared) (n : Node) (a : Arrow) → AreTyped ts → AreUnder (length ts) (child_ids n) → MeetsRow (node_term ts n a) → IsTypedTerm (node_term ts n a)
unfolding AreTyped
node_typed ts code.Iden a all under meets = meets
node_typed ts code.Unit a all under meets = meets
node_typed ts (code.Injl i) a all under meets = (meets, all i under.0)
node_typed ts (code.Injr i) a all under meets = (meets, all i under.0)
node_typed ts (code.Take i) a all under meets = (meets, all i under.0)
node_typed ts (code.Drop i) a all under meets = (meets, all i under.0)
node_typed ts (code.Comp i j) a all under meets = (meets, all i under.0, all j under.1.0)
node_typed ts (code.Case i j) a all under meets = (meets, all i under.0, all j under.1.0)
node_typed ts (code.Pair i j) a all under meets = (meets, all i under.0, all j under.1.0)
node_typed ts (code.AssertL i h) a all under meets = (meets, all i under.0)
node_typed ts (code.AssertR h i) a all under meets = (meets, all i under.0)
node_typed ts code.Fail a all under meets = meets
node_typed ts (code.Witness n) a all under meets = meets
node_typed ts (code.Word w) a all under meets = meets

one_more : (ts : List Declared) (t : Declared) → AreTyped ts → IsTypedTerm t → AreTyped (ts ++ t ∷ [])
unfolding AreTyped
one_more [] t all last zero h = last
one_more [] t all last (suc i) h = absurd (omega arith)
one_more (s ∷ ts) t all last zero h = all zero (omega arith)
one_more (s ∷ ts) t all last (suc i) h = one_more ts t (λ j g. all (suc j) (omega arith)) last i (omega arith)

all_typed : (kinds : List Kind) (ts : List Declared) (rows : List TermRow) → AreTyped ts → FollowFrom kinds ts rows → AreTyped (terms_after kinds ts rows)
all_typed kinds ts [] all f = all
all_typed kinds ts (row ∷ rows) all f =
    all_typed kinds (ts ++ row_term kinds ts row ∷ []) rows (one_more ts (row_term kinds ts row) all (node_typed ts row.node _ all f.0.children f.0.meets)) f.1

none_typed : AreTyped []
unfolding AreTyped
none_typed i h = absurd (omega arith)

pub terms_are_typed : TermsAreTyped
unfolding AreTyped
terms_are_typed kinds rows id stands h = all_typed kinds [] rows none_typed stands.each id (omega (arith, length-terms kinds rows))
