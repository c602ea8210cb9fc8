-- One turn of the loop over the nodes of a list.
use Rattle.std.proofs.Common.{◌≡◌, ℕ, zero, suc, ◌+◌, ◌<◌, ◌≤◌, List, [], ◌∷◌, ◌++◌, length, Option, Some, slice_get, get_or, refl, ap, sym, subst, ◌∙◌, arith}
use Rattle.simplicity.specs.Types.{Kind}
use Rattle.simplicity.specs.Nodes.{Node, AreUnder, IsPlaced, children}
use Rattle.simplicity.specs.Typing.{Arrow, HasNoTyping}
use Rattle.simplicity.proofs.Unfold.{children_under, follows_at}
use Rattle.term_core.specs.Nodes.{node_of, nodes_of}
use Rattle.term_core.specs.declared.list_node.ListNode.{ListNode}
use Rattle.infer_cells.specs.declared.cell.Cell.{Cell}
use Rattle.infer_cells.specs.declared.cell.Equation.{Equation}
use Rattle.infer_cells.specs.declared.cell.Place.{Place}
use Rattle.infer_cells.specs.Cells.{SameSolutions, NoSolution, ArePlaced, AreWithin}
use Rattle.infer_cells.specs.Emission.{emitted}
use Rattle.infer_cells.proofs.Constraint.{Constrains, next_placed, next_within, next_none, next_constrains}

node_there : (raw : List ListNode) (i : ℕ) (n : ListNode) → n ≡ get_or raw i n → i < length raw → slice_get (nodes_of raw) i ≡ Some (node_of n)
node_there [] i n is h = absurd (omega arith)
node_there (m ∷ raw) zero n is h = ap (λ x. Some (node_of x)) (sym is)
node_there (m ∷ raw) (suc i) n is h = node_there raw i n is (omega arith)

pub length-nodes : (raw : List ListNode) → length (nodes_of raw) ≡ length raw
length-nodes [] = refl
length-nodes (m ∷ raw) = ap suc (length-nodes raw)

-- a node of the list, with what was found for those before it
pub record Turn (kinds : List Kind) (last : ℕ) (ns : List Node) (i : ℕ) (cells : List Cell) (ps : List (Option Place)) (n : Node) : Type 0 where
  pub placed : IsPlaced ns
  pub there : slice_get ns i ≡ Some n
  pub so_far : Constrains kinds last ns i cells ps

pub turn_at : (kinds : List Kind) (last : ℕ) (raw : List ListNode) (ns : List Node) (i : ℕ) (cells : List Cell) (ps : List (Option Place)) (n : ListNode) → n ≡ get_or raw i n →
    nodes_of raw ≡ ns → IsPlaced ns → i < length raw → Constrains kinds last ns i cells ps → Turn kinds last ns i cells ps (node_of n)
turn_at kinds last raw ns i cells ps n item is placed within so_far = record {
  placed = placed;
  there = let P : List Node → Type 0 = λ ms. slice_get ms i ≡ Some (node_of n) in subst P is (node_there raw i n item within);
  so_far = so_far;
}

module _ (kinds : List Kind) (last : ℕ) (ns : List Node) (i : ℕ) (cells : List Cell) (ps seen : List (Option Place)) (n : Node) (turn : Turn kinds last ns i cells ps n) (view : seen ≡ ps) where
  pub turn_under : AreUnder (length seen) (children n)
  turn_under =
      let under : AreUnder i (children n) = children_under ns i n (follows_at ns i n turn.placed turn.there) in
      let same : i ≡ length seen = sym (ap length view ∙ turn.so_far.count) in
      let P : ℕ → Type 0 = λ k. AreUnder k (children n) in
      subst P same under

  module _ (new : List Cell) (work left : List Equation) (nothing : work ≡ []) (made : new ≡ cells ++ (emitted (length cells) seen n).cells)
      (asked : left ≡ work ++ (emitted (length cells) seen n).equations) where
    new_is : new ≡ cells ++ (emitted (length cells) ps n).cells
    new_is = let P : List (Option Place) → Type 0 = λ xs. new ≡ cells ++ (emitted (length cells) xs n).cells in subst P view made

    left_is : left ≡ (emitted (length cells) ps n).equations
    left_is =
        let P : List (Option Place) → Type 0 = λ xs. left ≡ work ++ (emitted (length cells) xs n).equations in
        subst P view asked ∙ ap (λ es. es ++ (emitted (length cells) ps n).equations) nothing

    pub turn_placed : ArePlaced new
    turn_placed = let P : List Cell → Type 0 = ArePlaced in subst P (sym new_is) (next_placed kinds last ns i cells ps n turn.placed turn.there turn.so_far)

    pub turn_within : AreWithin (length new) left
    turn_within =
        let P : List Cell → Type 0 = λ xs. AreWithin (length xs) left in
        let Q : List Equation → Type 0 = λ es. AreWithin (length (cells ++ (emitted (length cells) ps n).cells)) es in
        subst P (sym new_is) (subst Q (sym left_is) (next_within kinds last ns i cells ps n turn.placed turn.there turn.so_far))

    pub turn_none : (root : Arrow) → NoSolution new left → HasNoTyping ns root
    turn_none root none ts at =
        let P : List Cell → Type 0 = λ xs. NoSolution xs left in
        let Q : List Equation → Type 0 = λ es. NoSolution (cells ++ (emitted (length cells) ps n).cells) es in
        next_none kinds last ns i cells ps n turn.placed turn.there turn.so_far (subst Q left_is (subst P new_is none)) ts at.typed

    pub turn_next : (solved : List Cell) (place : Option Place) (more : List (Option Place)) → SameSolutions new left solved [] → length solved ≡ length new → ArePlaced solved →
        place ≡ (emitted (length cells) seen n).at → more ≡ ps ++ place ∷ [] → Constrains kinds last ns (i + 1) solved more
    turn_next solved place more same count placed at pushed =
        let P : List Cell → Type 0 = λ xs. SameSolutions xs left solved [] in
        let Q : List Equation → Type 0 = λ es. SameSolutions (cells ++ (emitted (length cells) ps n).cells) es solved [] in
        let R : List (Option Place) → Type 0 = λ xs. place ≡ (emitted (length cells) xs n).at in
        let S : List (Option Place) → Type 0 = λ xs. Constrains kinds last ns (i + 1) solved xs in
        let one : suc i ≡ i + 1 = omega arith in
        let T : ℕ → Type 0 = λ k. Constrains kinds last ns k solved (ps ++ (emitted (length cells) ps n).at ∷ []) in
        let whole : more ≡ ps ++ (emitted (length cells) ps n).at ∷ [] = pushed ∙ ap (λ x. ps ++ x ∷ []) (subst R view at) in
        subst S (sym whole)
        (subst T one (next_constrains kinds last ns i cells ps n turn.placed turn.there turn.so_far solved (subst Q left_is (subst P new_is same)) (count ∙ ap length new_is) placed))

pub all_seen : (raw : List ListNode) (ns : List Node) (i : ℕ) → nodes_of raw ≡ ns → length raw ≤ i → length ns ≤ i
all_seen raw ns i is past = omega (arith, ap length is, length-nodes raw)

pub few_seen : (raw : List ListNode) (ns : List Node) (i : ℕ) → nodes_of raw ≡ ns → i ≤ length raw → i ≤ length ns
few_seen raw ns i is few = omega (arith, ap length is, length-nodes raw)

pub work_is : (work new asked : List Equation) → work ≡ [] → new ≡ work ++ asked → new ≡ asked
work_is work new asked nothing made = made ∙ ap (λ es. es ++ asked) nothing

pub within_by : (n : ℕ) (new asked : List Equation) → new ≡ asked → AreWithin n asked → AreWithin n new
within_by n new asked is h = let P : List Equation → Type 0 = AreWithin n in subst P (sym is) h

pub same_by : (cells solved : List Cell) (new asked : List Equation) → new ≡ asked → SameSolutions cells new solved [] → SameSolutions cells asked solved []
same_by cells solved new asked is h = let P : List Equation → Type 0 = λ es. SameSolutions cells es solved [] in subst P is h

pub none_by : (cells : List Cell) (new asked : List Equation) → new ≡ asked → NoSolution cells new → NoSolution cells asked
none_by cells new asked is h = let P : List Equation → Type 0 = NoSolution cells in subst P is h
