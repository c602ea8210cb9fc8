-- The canonical list of a small declared term: its two units differ in their declared arrows, and become one node under the least typing.
use Rattle.std.proofs.Common.{◌≡◌, refl, ap, sym, subst, ◌∙◌, ℕ, zero, suc, ◌<◌, ◌≤◌, List, [], ◌∷◌, Option, Some, arith}
use Rattle.std.specs.Prelude.{slice_get}
use Rattle.std.specs.List.{slice_index_or}
use Rattle.simplicity.specs.Types.{Kind, One, Sum}
use Rattle.simplicity.specs.Nodes as node
use Rattle.simplicity.specs.Nodes.{Node, IsPlaced}
use Rattle.simplicity.specs.Order.{IsReached}
use Rattle.simplicity.specs.Places.{Became, ArePlaces}
use Rattle.simplicity.specs.Typing as row
use Rattle.simplicity.specs.Typing.{Typing, Arrow, arrow, HasArrow, IsTypingAt, IsTypingBelow, IsLeast}
use Rattle.simplicity.specs.Pruning.{renamed, IsMerged, IsReordered}
use Rattle.simplicity.specs.Canon.{Declared, ListsSubterms, StandsComp, StandsUnit, StandsWitness, IsCanon}
use Rattle.simplicity.specs.Canon as declared
use Rattle.simplicity.proofs.Typings.{meets_at, typing_length, HasFrom, same_list}
use Rattle.simplicity.proofs.Inversion.{unit_meets, comp_meets}
use Rattle.simplicity.proofs.Sharing.{shared_by, mark_with}
use Rattle.sharing.proofs.Orderly.{position, position_there}
use Rattle.sharing.proofs.Reordered.{merged_is_reordered}
use Rattle.core_rows.proofs.RowMerged.{at_most, same_arrow}

abbrev shown : Kind → Kind → Option Arrow
shown a b = Some (arrow a b)

abbrev bit : Kind
bit = Sum One One

-- a witness of the name 5, whose bit is dropped, and then a unit
abbrev whole_term : Declared
whole_term =
    declared.Comp (arrow One One) (declared.Witness (arrow One bit) 5)
    (declared.Comp (arrow bit One) (declared.UnitTerm (arrow bit One)) (declared.UnitTerm (arrow One One)))

abbrev listed : List Node
listed = node.Witness ∷ node.UnitNode ∷ node.UnitNode ∷ node.Comp 1 2 ∷ node.Comp 0 3 ∷ []

abbrev declared_arrows : Typing
declared_arrows = shown One bit ∷ shown bit One ∷ shown One One ∷ shown bit One ∷ shown One One ∷ []

abbrev names : List ℕ
names = 5 ∷ []

listed_placed : IsPlaced listed
listed_placed = (tt, (tt, (tt, ((tt, tt), ((tt, tt), tt)))))

all_reached : (i : ℕ) → i < 5 → IsReached listed i
all_reached zero l = refl
all_reached (suc zero) l = refl
all_reached (suc (suc zero)) l = refl
all_reached (suc (suc (suc zero))) l = refl
all_reached (suc (suc (suc (suc zero)))) l = refl
all_reached (suc (suc (suc (suc (suc i))))) l = absurd (omega arith)

subterms : ListsSubterms whole_term listed declared_arrows names
subterms = record {
  placed = listed_placed;
  whole =
      StandsComp 4 0 3 (arrow One One) (declared.Witness (arrow One bit) 5)
      (declared.Comp (arrow bit One) (declared.UnitTerm (arrow bit One)) (declared.UnitTerm (arrow One One))) refl refl
      (StandsWitness 0 5 (arrow One bit) refl refl refl)
      (StandsComp 3 1 2 (arrow bit One) (declared.UnitTerm (arrow bit One)) (declared.UnitTerm (arrow One One)) refl refl
      (StandsUnit 1 (arrow bit One) refl refl) (StandsUnit 2 (arrow One One) refl refl));
  reached = all_reached;
  different = shared_by mark_with listed declared_arrows refl;
  alone = refl;
}

-- the least typing asks for no bit
abbrev least_typing : Typing
least_typing = shown One One ∷ shown One One ∷ shown One One ∷ shown One One ∷ shown One One ∷ []

least_below : (us : Typing) → IsTypingAt listed (arrow One One) us → (k m : Kind) → m ≡ One → HasArrow us 0 One k → HasArrow us 1 k m →
    HasArrow us 2 m One → HasArrow us 3 k One → IsTypingBelow least_typing us
least_below us h k m m_is h0 h1 h2 h3 =
    let es = shown One k ∷ shown k One ∷ shown One One ∷ shown k One ∷ shown One One ∷ [] in
    let entries : HasFrom us 0 es = (
      h0,
      (same_arrow us 1 k m k One h1 refl m_is, (same_arrow us 2 m One One One h2 m_is refl, (h3, (h.rooted, tt)))),
    ) in
    let same : us ≡ es = same_list us es (typing_length us listed us h.typed) entries in
    subst (IsTypingBelow least_typing) (sym same) ((tt, tt), ((tt, tt), ((tt, tt), ((tt, tt), ((tt, tt), tt)))))

listed_least : IsLeast listed (arrow One One) least_typing
listed_least = record {
  typing = record {
    typed = (
      row.Witness One One,
      (row.UnitNode One, (row.UnitNode One, (row.Comp 1 2 One One One refl refl, (row.Comp 0 3 One One One refl refl, tt)))),
    );
    rooted = refl;
  };
  least = λ us h.
      let whole = comp_meets us 0 3 One One (meets_at us listed 4 (node.Comp 0 3) One One h.typed refl h.rooted) in
      let rest = comp_meets us 1 2 whole.0 One (meets_at us listed 3 (node.Comp 1 2) whole.0 One h.typed refl whole.2) in
      let one = unit_meets us whole.0 rest.0 (meets_at us listed 1 node.UnitNode whole.0 rest.0 h.typed refl rest.1) in
      least_below us h whole.0 rest.0 one whole.1 rest.1 rest.2 whole.2;
}

abbrev new_nodes : List Node
new_nodes = node.Witness ∷ node.UnitNode ∷ node.Comp 1 1 ∷ node.Comp 0 2 ∷ []

abbrev new_typing : Typing
new_typing = shown One One ∷ shown One One ∷ shown One One ∷ shown One One ∷ []

abbrev goes : ℕ → ℕ
goes i = slice_index_or (0 ∷ 1 ∷ 1 ∷ 2 ∷ 3 ∷ []) i 0

abbrev Goes : ℕ → Node → Type 0
Goes i n = slice_get new_nodes (goes i) ≡ Some (renamed goes n)

node_goes : (i : ℕ) (m n : Node) → Some m ≡ Some n → Goes i m → Goes i n
node_goes i m n e h = let same : m ≡ n = cc in subst (Goes i) same h

nodes_go : (i : ℕ) (n : Node) → slice_get listed i ≡ Some n → Goes i n
nodes_go zero n e = node_goes 0 node.Witness n e refl
nodes_go (suc zero) n e = node_goes 1 node.UnitNode n e refl
nodes_go (suc (suc zero)) n e = node_goes 2 node.UnitNode n e refl
nodes_go (suc (suc (suc zero))) n e = node_goes 3 (node.Comp 1 2) n e refl
nodes_go (suc (suc (suc (suc zero)))) n e = node_goes 4 (node.Comp 0 3) n e refl
nodes_go (suc (suc (suc (suc (suc i))))) n e = absurd (cc)

arrows_go : (i : ℕ) → i < 5 → slice_get new_typing (goes i) ≡ slice_get least_typing i
arrows_go zero l = refl
arrows_go (suc zero) l = refl
arrows_go (suc (suc zero)) l = refl
arrows_go (suc (suc (suc zero))) l = refl
arrows_go (suc (suc (suc (suc zero)))) l = refl
arrows_go (suc (suc (suc (suc (suc i))))) l = absurd (omega arith)

witness_first : (i : ℕ) → slice_get listed i ≡ Some node.Witness → i ≡ 0
witness_first zero e = refl
witness_first (suc zero) e = absurd (cc)
witness_first (suc (suc zero)) e = absurd (cc)
witness_first (suc (suc (suc zero))) e = absurd (cc)
witness_first (suc (suc (suc (suc zero)))) e = absurd (cc)
witness_first (suc (suc (suc (suc (suc i))))) e = absurd (cc)

merged : IsMerged listed least_typing new_nodes new_typing goes
merged = record {
  root = refl;
  nodes = nodes_go;
  arrows = arrows_go;
  apart = λ i j e f same. witness_first i e ∙ sym (witness_first j f);
}

-- each node ends at its own index
abbrev order : List ℕ
order = 0 ∷ 1 ∷ 2 ∷ 3 ∷ 4 ∷ []

abbrev new_places : List ℕ
new_places = 0 ∷ 1 ∷ 3 ∷ 4 ∷ []

became_by : (new old place : ℕ) → Some place ≡ Some old → Became listed goes place new → Became listed goes old new
became_by new old place e from = let same : place ≡ old = cc in subst (λ (x : ℕ). Became listed goes x new) same from

became : (new old : ℕ) → slice_get new_places new ≡ Some old → Became listed goes old new
became zero old e = became_by 0 old 0 e (record { reached = refl; goes = refl })
became (suc zero) old e = became_by 1 old 1 e (record { reached = refl; goes = refl })
became (suc (suc zero)) old e = became_by 2 old 3 e (record { reached = refl; goes = refl })
became (suc (suc (suc zero))) old e = became_by 3 old 4 e (record { reached = refl; goes = refl })
became (suc (suc (suc (suc n)))) old e = absurd (cc)

least_from : (k old other : ℕ) → slice_get order k ≡ Some other → slice_get new_places (goes k) ≡ Some old → old ≤ other
least_from zero old other e f = at_most old other 0 0 e f (omega arith)
least_from (suc zero) old other e f = at_most old other 1 1 e f (omega arith)
least_from (suc (suc zero)) old other e f = at_most old other 1 2 e f (omega arith)
least_from (suc (suc (suc zero))) old other e f = at_most old other 3 3 e f (omega arith)
least_from (suc (suc (suc (suc zero)))) old other e f = at_most old other 4 4 e f (omega arith)
least_from (suc (suc (suc (suc (suc k))))) old other e f = absurd (cc)

from : ArePlaces listed new_nodes goes new_places
from = record {
  count = refl;
  became = became;
  least = λ new old other e b.
      let there : slice_get order (position other order) ≡ Some other = position_there other order b.reached in
      least_from (position other order) old other there (ap (slice_get new_places) b.goes ∙ e);
}

reordered : IsReordered listed (arrow One One) new_nodes new_typing new_places
reordered =
    merged_is_reordered listed new_nodes least_typing new_typing new_places (arrow One One) goes listed_placed (omega arith)
    (tt, (tt, ((tt, tt), ((tt, tt), tt)))) listed_least merged (shared_by mark_with new_nodes new_typing refl) refl refl from

-- the canonical list, its typing and the name of its witness node
row_canon : IsCanon whole_term (arrow One One) new_nodes new_typing names
row_canon = record {
  list = listed;
  declared = declared_arrows;
  names = names;
  places = new_places;
  subterms = subterms;
  reordered = reordered;
  named = refl;
}
