-- A program whose case uses more of its witness on the side that isn't visited: once that is hidden, the witness value shrinks,
-- and two units become one node.
use Rattle.std.proofs.Common.{◌≡◌, refl, ap, sym, subst, ◌∙◌, ℕ, zero, suc, ◌<◌, ◌≤◌, Bool, true, false, List, [], ◌∷◌, Option, Some, None, arith, eqb-true}
use Rattle.std.specs.Prelude.{slice_get, nat_eq}
use Rattle.std.specs.List.{slice_index_or}
use Rattle.simplicity.specs.Types.{Kind, One, Sum, Product, Value, UnitValue, Inl, Inr, Pair}
use Rattle.simplicity.specs.Terms as term
use Rattle.simplicity.specs.Nodes as node
use Rattle.simplicity.specs.Nodes.{Node, IsPlaced}
use Rattle.simplicity.specs.Order.{post_order}
use Rattle.simplicity.specs.Places.{Became, ArePlaces}
use Rattle.simplicity.specs.Typing as row
use Rattle.simplicity.specs.Typing.{Typing, Arrow, arrow, HasArrow, IsTypingAt, IsTypingBelow, IsLeast}
use Rattle.simplicity.specs.Roots.{root}
use Rattle.simplicity.specs.Shared.{IsShared}
use Rattle.simplicity.specs.Visits.{Visit, visit, Visited, Start, Onward, leads, IsVisitedLeft, IsVisitedRight, IsCaseAt}
use Rattle.simplicity.specs.Pruning.{Choice, Keep, HideLeft, HideRight, cut, HidesUnvisited, IsHide, gathered, renamed, IsOpenAt, IsMerged, IsReordered, IsPruned}
use Rattle.simplicity.proofs.Typings.{meets_at, hidden_at, typing_length, HasFrom, same_list}
use Rattle.simplicity.proofs.Inversion.{unit_meets, comp_meets, pair_meets, assertr_meets}
use Rattle.simplicity.proofs.Sharing.{shared_by, mark_with}
use Rattle.sharing.proofs.Cuts.{hiding_cuts, cuts_are_placed}
use Rattle.sharing.proofs.Orderly.{position, position_there}
use Rattle.sharing.proofs.Reordered.{merged_is_reordered}

abbrev shown : Kind → Kind → Option Arrow
shown a b = Some (arrow a b)

abbrev bit : Kind
bit = Sum One One

-- the left side of the case asks for a pair in its input, the right side for nothing
abbrev old_nodes : List Node
old_nodes =
    node.Witness ∷ node.Iden ∷ node.Take 1 ∷ node.Drop 2 ∷ node.UnitNode ∷ node.Case 3 4 ∷ node.Comp 0 5 ∷ node.UnitNode ∷ node.Pair 6 7 ∷
    node.UnitNode ∷ node.Comp 8 9 ∷ []

abbrev tested : Value
tested = Pair (Inr UnitValue) (Pair UnitValue UnitValue)

abbrev old_values : List Value
old_values = tested ∷ []

old_placed : IsPlaced old_nodes
old_placed = (tt, (tt, (tt, (tt, (tt, (tt, ((tt, tt), (tt, ((tt, tt), (tt, ((tt, tt), tt)))))))))))

-- the left side of the case is hidden
hide_if : Bool → Choice
hide_if true = HideLeft
hide_if false = Keep

abbrev choices : ℕ → Choice
choices i = hide_if (nat_eq i 5)

abbrev hidden_nodes : List Node
hidden_nodes = cut choices old_nodes

abbrev kept_nodes : List Node
kept_nodes =
    node.Witness ∷ node.Hidden (root (term.Drop (term.Take term.Iden))) ∷ node.UnitNode ∷ node.Case 1 2 ∷ node.Comp 0 3 ∷ node.UnitNode ∷ node.Pair 4 5 ∷
    node.UnitNode ∷ node.Comp 6 7 ∷ []

kept_is : gathered hidden_nodes ≡ kept_nodes
unfolding hide_if
kept_is = refl

-- the visits of the run
data Seen : Visit → Type 0 where
  SeenRoot : Seen (visit 10 UnitValue)
  SeenPair : Seen (visit 8 UnitValue)
  SeenLast : Seen (visit 9 (Pair UnitValue UnitValue))
  SeenComp : Seen (visit 6 UnitValue)
  SeenUnit : Seen (visit 7 UnitValue)
  SeenWitness : Seen (visit 0 UnitValue)
  SeenCase : Seen (visit 5 tested)
  SeenSide : Seen (visit 4 (Pair UnitValue (Pair UnitValue UnitValue)))

seen_some : (s t : Visit) → Some s ≡ Some t → Seen s → Seen t
seen_some s t e h = let same : s ≡ t = cc in subst Seen same h

closed : (s t : Visit) (k : ℕ) → Seen s → slice_get (leads old_nodes old_values s) k ≡ Some t → Seen t
closed _ t zero SeenRoot e = seen_some (visit 8 UnitValue) t e SeenPair
closed _ t (suc zero) SeenRoot e = seen_some (visit 9 (Pair UnitValue UnitValue)) t e SeenLast
closed _ t (suc (suc k)) SeenRoot e = absurd (cc)
closed _ t zero SeenPair e = seen_some (visit 6 UnitValue) t e SeenComp
closed _ t (suc zero) SeenPair e = seen_some (visit 7 UnitValue) t e SeenUnit
closed _ t (suc (suc k)) SeenPair e = absurd (cc)
closed _ t k SeenLast e = absurd (cc)
closed _ t zero SeenComp e = seen_some (visit 0 UnitValue) t e SeenWitness
closed _ t (suc zero) SeenComp e = seen_some (visit 5 tested) t e SeenCase
closed _ t (suc (suc k)) SeenComp e = absurd (cc)
closed _ t k SeenUnit e = absurd (cc)
closed _ t k SeenWitness e = absurd (cc)
closed _ t zero SeenCase e = seen_some (visit 4 (Pair UnitValue (Pair UnitValue UnitValue))) t e SeenSide
closed _ t (suc k) SeenCase e = absurd (cc)
closed _ t k SeenSide e = absurd (cc)

all_seen : (t : Visit) → Visited old_nodes old_values UnitValue t → Seen t
all_seen _ Start = SeenRoot
all_seen _ (Onward s t k h e) = closed s t k (all_seen s h) e

case_visited : Visited old_nodes old_values UnitValue (visit 5 tested)
case_visited =
    Onward (visit 6 UnitValue) (visit 5 tested) 1
    (Onward (visit 8 UnitValue) (visit 6 UnitValue) 0 (Onward (visit 10 UnitValue) (visit 8 UnitValue) 0 Start refl) refl) refl

-- the one case stands at 5, and is visited on its right side alone
case_at : (i : ℕ) → IsCaseAt old_nodes i → i ≡ 5
case_at zero h = absurd (let e = h.2 in cc)
case_at (suc zero) h = absurd (let e = h.2 in cc)
case_at (suc (suc zero)) h = absurd (let e = h.2 in cc)
case_at (suc (suc (suc zero))) h = absurd (let e = h.2 in cc)
case_at (suc (suc (suc (suc zero)))) h = absurd (let e = h.2 in cc)
case_at (suc (suc (suc (suc (suc zero))))) h = refl
case_at (suc (suc (suc (suc (suc (suc zero)))))) h = absurd (let e = h.2 in cc)
case_at (suc (suc (suc (suc (suc (suc (suc zero))))))) h = absurd (let e = h.2 in cc)
case_at (suc (suc (suc (suc (suc (suc (suc (suc zero)))))))) h = absurd (let e = h.2 in cc)
case_at (suc (suc (suc (suc (suc (suc (suc (suc (suc zero))))))))) h = absurd (let e = h.2 in cc)
case_at (suc (suc (suc (suc (suc (suc (suc (suc (suc (suc zero)))))))))) h = absurd (let e = h.2 in cc)
case_at (suc (suc (suc (suc (suc (suc (suc (suc (suc (suc (suc i))))))))))) h = absurd (let e = h.2 in cc)

right_alone : (s : Visit) (a c : Value) → Seen s → s.at ≡ 5 → s.on ≡ Pair (Inl a) c → ⊥
right_alone _ a c SeenRoot e f = absurd (omega arith)
right_alone _ a c SeenPair e f = absurd (omega arith)
right_alone _ a c SeenLast e f = absurd (omega arith)
right_alone _ a c SeenComp e f = absurd (omega arith)
right_alone _ a c SeenUnit e f = absurd (omega arith)
right_alone _ a c SeenWitness e f = absurd (omega arith)
right_alone _ a c SeenCase e f = absurd (cc)
right_alone _ a c SeenSide e f = absurd (omega arith)

not_left : (i : ℕ) → i ≡ 5 → IsVisitedLeft old_nodes old_values UnitValue i → ⊥
not_left i e h = right_alone (visit i (Pair (Inl h.1) h.2)) h.1 h.2 (all_seen (visit i (Pair (Inl h.1) h.2)) h.3) e refl

hide_left : (b : Bool) → hide_if b ≡ HideLeft → b ≡ true
unfolding hide_if
hide_left true e = refl
hide_left false e = absurd (cc)

hide_right : (b : Bool) → hide_if b ≡ HideRight → ⊥
unfolding hide_if
hide_right true e = absurd (cc)
hide_right false e = absurd (cc)

visited_right : (i : ℕ) → i ≡ 5 → IsVisitedRight old_nodes old_values UnitValue i
visited_right i e = subst (IsVisitedRight old_nodes old_values UnitValue) (sym e) ((3, 4, refl), UnitValue, Pair UnitValue UnitValue, case_visited)

open_at : (i : ℕ) → i ≡ 5 → IsOpenAt old_nodes i
open_at i e = subst (IsOpenAt old_nodes) (sym e) (record { left = 3; right = 4; here = refl; left_shown = tt; right_shown = tt })

unvisited : HidesUnvisited old_nodes old_values UnitValue choices
unfolding hide_if
unvisited = record {
  left = λ i. (
    λ e. let at : i ≡ 5 = eqb-true i 5 (hide_left (nat_eq i 5) e) in (open_at i at, visited_right i at, not_left i at),
    λ h. let at : i ≡ 5 = case_at i h.1.0 in subst (λ (k : ℕ). choices k ≡ HideLeft) (sym at) refl,
  );
  right = λ i. (
    λ e. absurd (hide_right (nat_eq i 5) e),
    λ h. absurd (not_left i (case_at i h.1.0) h.1),
  );
}

hide : IsHide old_nodes old_values UnitValue hidden_nodes
hide = record { choices = choices; unvisited = unvisited; is_cut = refl }

-- the least typing of what is kept
abbrev left_kind : Kind
left_kind = Product bit One

abbrev kept_typing : Typing
kept_typing =
    shown One left_kind ∷ None ∷ shown (Product One One) One ∷ shown left_kind One ∷ shown One One ∷ shown One One ∷ shown One (Product One One) ∷
    shown (Product One One) One ∷ shown One One ∷ []

pub same_arrow : (us : Typing) (i : ℕ) (a b c d : Kind) → HasArrow us i a b → a ≡ c → b ≡ d → HasArrow us i c d
same_arrow us i a b c d h e f = subst (λ (k : Kind). HasArrow us i c k) f (subst (λ (k : Kind). HasArrow us i k b) e h)

kept_below : (us : Typing) → IsTypingAt kept_nodes (arrow One One) us → (k p q m a b c : Kind) → k ≡ Product p q → p ≡ One → q ≡ One → m ≡ Product (Sum a b) c →
    HasArrow us 7 k One → HasArrow us 6 One k → HasArrow us 5 One q → HasArrow us 4 One p → HasArrow us 3 m p → HasArrow us 2 (Product b c) p →
    HasArrow us 0 One m → IsTypingBelow kept_typing us
kept_below us h k p q m a b c k_is p_is q_is m_is h7 h6 h5 h4 h3 h2 h0 =
    let both : k ≡ Product One One = cc in
    let es = shown One (Product (Sum a b) c) ∷ None ∷ shown (Product b c) One ∷ shown (Product (Sum a b) c) One ∷ shown One One ∷ shown One One ∷
    shown One (Product One One) ∷ shown (Product One One) One ∷ shown One One ∷ [] in
    let entries : HasFrom us 0 es = (
      same_arrow us 0 One m One (Product (Sum a b) c) h0 refl m_is,
      (
        hidden_at us kept_nodes 1 (root (term.Drop (term.Take term.Iden))) h.typed refl,
        (
          same_arrow us 2 (Product b c) p (Product b c) One h2 refl p_is,
          (
            same_arrow us 3 m p (Product (Sum a b) c) One h3 m_is p_is,
            (
              same_arrow us 4 One p One One h4 refl p_is,
              (
                same_arrow us 5 One q One One h5 refl q_is,
                (
                  same_arrow us 6 One k One (Product One One) h6 refl both,
                  (same_arrow us 7 k One (Product One One) One h7 both refl, (h.rooted, tt)),
                ),
              ),
            ),
          ),
        ),
      ),
    ) in
    let same : us ≡ es = same_list us es (typing_length us kept_nodes us h.typed) entries in
    subst (IsTypingBelow kept_typing) (sym same) (
      (tt, ((tt, tt), tt)),
      (tt, (((tt, tt), tt), ((((tt, tt), tt), tt), ((tt, tt), ((tt, tt), ((tt, (tt, tt)), (((tt, tt), tt), ((tt, tt), tt)))))))),
    )

kept_least : IsLeast kept_nodes (arrow One One) kept_typing
kept_least = record {
  typing = record {
    typed = (
      row.Witness One left_kind,
      (
        tt,
        (
          row.UnitNode (Product One One),
          (
            row.AssertR 1 2 One One One One refl refl,
            (
              row.Comp 0 3 One left_kind One refl refl,
              (
                row.UnitNode One,
                (row.Pair 4 5 One One One refl refl, (row.UnitNode (Product One One), (row.Comp 6 7 One (Product One One) One refl refl, tt))),
              ),
            ),
          ),
        ),
      ),
    );
    rooted = refl;
  };
  least = λ us h.
      let whole = comp_meets us 6 7 One One (meets_at us kept_nodes 8 (node.Comp 6 7) One One h.typed refl h.rooted) in
      let pair = pair_meets us 4 5 One whole.0 (meets_at us kept_nodes 6 (node.Pair 4 5) One whole.0 h.typed refl whole.1) in
      let second = unit_meets us One pair.1 (meets_at us kept_nodes 5 node.UnitNode One pair.1 h.typed refl pair.4) in
      let part = comp_meets us 0 3 One pair.0 (meets_at us kept_nodes 4 (node.Comp 0 3) One pair.0 h.typed refl pair.3) in
      let side = assertr_meets us 1 2 part.0 pair.0 (meets_at us kept_nodes 3 (node.Case 1 2) part.0 pair.0 h.typed refl part.2)
      (hidden_at us kept_nodes 1 (root (term.Drop (term.Take term.Iden))) h.typed refl) in
      let first = unit_meets us (Product side.1 side.2) pair.0
      (meets_at us kept_nodes 2 node.UnitNode (Product side.1 side.2) pair.0 h.typed refl side.4) in
      kept_below us h whole.0 pair.0 pair.1 part.0 side.0 side.1 side.2 pair.2 first second side.3 whole.2 whole.1 pair.4 pair.3 part.2 side.4 part.1;
}

-- the units at 2 and 7 become one
abbrev new_nodes : List Node
new_nodes =
    node.Witness ∷ node.Hidden (root (term.Drop (term.Take term.Iden))) ∷ node.UnitNode ∷ node.Case 1 2 ∷ node.Comp 0 3 ∷ node.UnitNode ∷ node.Pair 4 5 ∷
    node.Comp 6 2 ∷ []

abbrev new_typing : Typing
new_typing =
    shown One left_kind ∷ None ∷ shown (Product One One) One ∷ shown left_kind One ∷ shown One One ∷ shown One One ∷ shown One (Product One One) ∷
    shown One One ∷ []

abbrev new_values : List Value
new_values = Pair (Inr UnitValue) UnitValue ∷ []

abbrev goes : ℕ → ℕ
goes i = slice_index_or (0 ∷ 1 ∷ 2 ∷ 3 ∷ 4 ∷ 5 ∷ 6 ∷ 2 ∷ 7 ∷ []) i 0

abbrev Goes : ℕ → Node → Type 0
Goes i n = slice_get new_nodes (goes i) ≡ Some (renamed goes n)

node_goes : (i : ℕ) (m n : Node) → Some m ≡ Some n → Goes i m → Goes i n
node_goes i m n e h = let same : m ≡ n = cc in subst (Goes i) same h

nodes_go : (i : ℕ) (n : Node) → slice_get kept_nodes i ≡ Some n → Goes i n
nodes_go zero n e = node_goes 0 node.Witness n e refl
nodes_go (suc zero) n e = node_goes 1 (node.Hidden (root (term.Drop (term.Take term.Iden)))) n e refl
nodes_go (suc (suc zero)) n e = node_goes 2 node.UnitNode n e refl
nodes_go (suc (suc (suc zero))) n e = node_goes 3 (node.Case 1 2) n e refl
nodes_go (suc (suc (suc (suc zero)))) n e = node_goes 4 (node.Comp 0 3) n e refl
nodes_go (suc (suc (suc (suc (suc zero))))) n e = node_goes 5 node.UnitNode n e refl
nodes_go (suc (suc (suc (suc (suc (suc zero)))))) n e = node_goes 6 (node.Pair 4 5) n e refl
nodes_go (suc (suc (suc (suc (suc (suc (suc zero))))))) n e = node_goes 7 node.UnitNode n e refl
nodes_go (suc (suc (suc (suc (suc (suc (suc (suc zero)))))))) n e = node_goes 8 (node.Comp 6 7) n e refl
nodes_go (suc (suc (suc (suc (suc (suc (suc (suc (suc i))))))))) n e = absurd (cc)

arrows_go : (i : ℕ) → i < 9 → slice_get new_typing (goes i) ≡ slice_get kept_typing i
arrows_go zero l = refl
arrows_go (suc zero) l = refl
arrows_go (suc (suc zero)) l = refl
arrows_go (suc (suc (suc zero))) l = refl
arrows_go (suc (suc (suc (suc zero)))) l = refl
arrows_go (suc (suc (suc (suc (suc zero))))) l = refl
arrows_go (suc (suc (suc (suc (suc (suc zero)))))) l = refl
arrows_go (suc (suc (suc (suc (suc (suc (suc zero))))))) l = refl
arrows_go (suc (suc (suc (suc (suc (suc (suc (suc zero)))))))) l = refl
arrows_go (suc (suc (suc (suc (suc (suc (suc (suc (suc i))))))))) l = absurd (omega arith)

witness_first : (i : ℕ) → slice_get kept_nodes i ≡ Some node.Witness → i ≡ 0
witness_first zero e = refl
witness_first (suc zero) e = absurd (cc)
witness_first (suc (suc zero)) e = absurd (cc)
witness_first (suc (suc (suc zero))) e = absurd (cc)
witness_first (suc (suc (suc (suc zero)))) e = absurd (cc)
witness_first (suc (suc (suc (suc (suc zero))))) e = absurd (cc)
witness_first (suc (suc (suc (suc (suc (suc zero)))))) e = absurd (cc)
witness_first (suc (suc (suc (suc (suc (suc (suc zero))))))) e = absurd (cc)
witness_first (suc (suc (suc (suc (suc (suc (suc (suc zero)))))))) e = absurd (cc)
witness_first (suc (suc (suc (suc (suc (suc (suc (suc (suc i))))))))) e = absurd (cc)

merged : IsMerged kept_nodes kept_typing new_nodes new_typing goes
merged = record {
  root = refl;
  nodes = nodes_go;
  arrows = arrows_go;
  apart = λ i j e f same. witness_first i e ∙ sym (witness_first j f);
}

-- the old places: the unit that two became comes from 15 and 20
abbrev order : List ℕ
order = 11 ∷ 3 ∷ 15 ∷ 16 ∷ 17 ∷ 18 ∷ 19 ∷ 20 ∷ 21 ∷ []

order_is : post_order hidden_nodes ≡ order
unfolding hide_if
order_is = refl

abbrev new_places : List ℕ
new_places = 11 ∷ 3 ∷ 15 ∷ 16 ∷ 17 ∷ 18 ∷ 19 ∷ 21 ∷ []

became_by : (new old place : ℕ) → Some place ≡ Some old → Became hidden_nodes goes place new → Became hidden_nodes goes old new
became_by new old place e from = let same : place ≡ old = cc in subst (λ (x : ℕ). Became hidden_nodes goes x new) same from

became : (new old : ℕ) → slice_get new_places new ≡ Some old → Became hidden_nodes goes old new
unfolding hide_if
became zero old e = became_by 0 old 11 e (record { reached = refl; goes = refl })
became (suc zero) old e = became_by 1 old 3 e (record { reached = refl; goes = refl })
became (suc (suc zero)) old e = became_by 2 old 15 e (record { reached = refl; goes = refl })
became (suc (suc (suc zero))) old e = became_by 3 old 16 e (record { reached = refl; goes = refl })
became (suc (suc (suc (suc zero)))) old e = became_by 4 old 17 e (record { reached = refl; goes = refl })
became (suc (suc (suc (suc (suc zero))))) old e = became_by 5 old 18 e (record { reached = refl; goes = refl })
became (suc (suc (suc (suc (suc (suc zero)))))) old e = became_by 6 old 19 e (record { reached = refl; goes = refl })
became (suc (suc (suc (suc (suc (suc (suc zero))))))) old e = became_by 7 old 21 e (record { reached = refl; goes = refl })
became (suc (suc (suc (suc (suc (suc (suc (suc n)))))))) old e = absurd (cc)

pub at_most : (old other p q : ℕ) → Some q ≡ Some other → Some p ≡ Some old → p ≤ q → old ≤ other
at_most old other p q e f l =
    let first : q ≡ other = cc in
    let second : p ≡ old = cc in
    omega arith

least_from : (k old other : ℕ) → slice_get order k ≡ Some other → slice_get new_places (goes k) ≡ Some old → old ≤ other
least_from zero old other e f = at_most old other 11 11 e f (omega arith)
least_from (suc zero) old other e f = at_most old other 3 3 e f (omega arith)
least_from (suc (suc zero)) old other e f = at_most old other 15 15 e f (omega arith)
least_from (suc (suc (suc zero))) old other e f = at_most old other 16 16 e f (omega arith)
least_from (suc (suc (suc (suc zero)))) old other e f = at_most old other 17 17 e f (omega arith)
least_from (suc (suc (suc (suc (suc zero))))) old other e f = at_most old other 18 18 e f (omega arith)
least_from (suc (suc (suc (suc (suc (suc zero)))))) old other e f = at_most old other 19 19 e f (omega arith)
least_from (suc (suc (suc (suc (suc (suc (suc zero))))))) old other e f = at_most old other 15 20 e f (omega arith)
least_from (suc (suc (suc (suc (suc (suc (suc (suc zero)))))))) old other e f = at_most old other 21 21 e f (omega arith)
least_from (suc (suc (suc (suc (suc (suc (suc (suc (suc k))))))))) old other e f = absurd (cc)

from : ArePlaces hidden_nodes new_nodes goes new_places
unfolding hide_if
from = record {
  count = refl;
  became = became;
  least = λ new old other e b.
      let there : slice_get order (position other order) ≡ Some other = position_there other order b.reached in
      least_from (position other order) old other there (ap (slice_get new_places) b.goes ∙ e);
}

mark_apart : Node → Option (Option Arrow) → ℕ
mark_apart (node.Hidden h) e = 9
mark_apart n e = mark_with n e

new_shared : IsShared new_nodes new_typing
unfolding mark_apart
new_shared = shared_by mark_apart new_nodes new_typing refl

new_placed : IsPlaced new_nodes
new_placed = (tt, (tt, (tt, (tt, ((tt, tt), (tt, ((tt, tt), ((tt, tt), tt))))))))

reordered : IsReordered hidden_nodes (arrow One One) new_nodes new_typing new_places
unfolding hide_if
reordered =
    merged_is_reordered hidden_nodes new_nodes kept_typing new_typing new_places (arrow One One) goes
    (cuts_are_placed old_nodes hidden_nodes old_placed (hiding_cuts old_nodes hidden_nodes old_values UnitValue hide)) (omega arith) new_placed
    kept_least merged new_shared refl refl from

-- the pruned list, its typing and the value that is left
row_pruned : IsPruned old_nodes old_values new_nodes new_typing new_values
unfolding hide_if
row_pruned = record { hidden = hidden_nodes; places = new_places; hide = hide; reordered = reordered; values = refl }
