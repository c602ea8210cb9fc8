-- A program that tests its witness, pruned by a true one: hiding, reordering and shrinking as they are defined.
use Rattle.std.proofs.Common.{◌≡◌, refl, ap, sym, subst, ◌∙◌, ℕ, zero, suc, Bool, true, false, List, [], ◌∷◌, Option, Some, None, arith, eqb-true, ◌+◌, ◌≤◌, ◌||◌}
use Rattle.std.specs.Prelude.{slice_get, nat_eq}
use Rattle.std.specs.List.{position_or_len}
use Rattle.simplicity.specs.Types.{Kind, One, Sum, Product, Value, UnitValue, Inl, Inr, Pair}
use Rattle.simplicity.specs.Terms as term
use Rattle.simplicity.specs.Nodes as node
use Rattle.simplicity.specs.Nodes.{Node}
use Rattle.simplicity.specs.Typing as row
use Rattle.simplicity.specs.Typing.{Typing, Arrow, arrow, HasArrow, IsTypingAt, IsTypingBelow, IsLeast}
use Rattle.simplicity.specs.Roots.{root}
use Rattle.simplicity.specs.Visits.{Visit, visit, Visited, Start, Onward, leads, IsVisitedLeft, IsVisitedRight, IsCaseAt}
use Rattle.simplicity.specs.Pruning.{Choice, Keep, HideLeft, HideRight, cut, HidesUnvisited, gathered, renamed, IsOpenAt, IsMerged, IsPruned}
use Rattle.simplicity.specs.Shared.{IsCanonicalUnder}
use Rattle.simplicity.specs.Order.{has, post_order}
use Rattle.simplicity.specs.Places.{Became, ArePlaces}
use Rattle.simplicity.proofs.Typings.{meets_at, hidden_at, typing_length, HasFrom, same_list}
use Rattle.simplicity.proofs.Inversion.{unit_meets, comp_meets, pair_parts, assertr_meets}
use Rattle.simplicity.proofs.RowTypings.{same_arrow}
use Rattle.simplicity.proofs.Sharing.{shared_by, mark_with}
use Rattle.simplicity.proofs.Rows.{shown, bit}

-- `fn main() { match witness::B { true => (), false => () } }` without the scope that it doesn't use
abbrev test_nodes : List Node
test_nodes = node.Witness ∷ node.UnitNode ∷ node.Pair 0 1 ∷ node.UnitNode ∷ node.Case 3 3 ∷ node.Comp 2 4 ∷ []

abbrev test_witness : List Value
test_witness = Inr UnitValue ∷ []

-- the left side of the case is hidden
pub hide_if : Bool → Choice
hide_if true = HideLeft
hide_if false = Keep

abbrev test_choices : ℕ → Choice
test_choices i = hide_if (nat_eq i 4)

abbrev hidden_nodes : List Node
hidden_nodes = cut test_choices test_nodes

abbrev kept_nodes : List Node
kept_nodes = node.Witness ∷ node.UnitNode ∷ node.Pair 0 1 ∷ node.Hidden (root term.UnitTerm) ∷ node.UnitNode ∷ node.Case 3 4 ∷ node.Comp 2 5 ∷ []

kept_is : gathered hidden_nodes ≡ kept_nodes
unfolding hide_if
kept_is = refl

-- the visits of the run
data Seen : Visit → Type 0 where
  SeenRoot : Seen (visit 5 UnitValue)
  SeenPair : Seen (visit 2 UnitValue)
  SeenWitness : Seen (visit 0 UnitValue)
  SeenUnit : Seen (visit 1 UnitValue)
  SeenCase : Seen (visit 4 (Pair (Inr UnitValue) UnitValue))
  SeenSide : Seen (visit 3 (Pair UnitValue UnitValue))

seen_some : (s t : Visit) → Some s ≡ Some t → Seen s → Seen t
seen_some s t e h = let same : s ≡ t = cc in subst Seen same h

closed : (s t : Visit) (k : ℕ) → Seen s → slice_get (leads test_nodes test_witness s) k ≡ Some t → Seen t
closed _ t zero SeenRoot e = seen_some (visit 2 UnitValue) t e SeenPair
closed _ t (suc zero) SeenRoot e = seen_some (visit 4 (Pair (Inr UnitValue) UnitValue)) t e SeenCase
closed _ t (suc (suc k)) SeenRoot e = absurd (cc)
closed _ t zero SeenPair e = seen_some (visit 0 UnitValue) t e SeenWitness
closed _ t (suc zero) SeenPair e = seen_some (visit 1 UnitValue) t e SeenUnit
closed _ t (suc (suc k)) SeenPair e = absurd (cc)
closed _ t k SeenWitness e = absurd (cc)
closed _ t k SeenUnit e = absurd (cc)
closed _ t zero SeenCase e = seen_some (visit 3 (Pair UnitValue UnitValue)) t e SeenSide
closed _ t (suc k) SeenCase e = absurd (cc)
closed _ t k SeenSide e = absurd (cc)

all_seen : (t : Visit) → Visited test_nodes test_witness UnitValue t → Seen t
all_seen _ Start = SeenRoot
all_seen _ (Onward s t k h e) = closed s t k (all_seen s h) e

case_visited : Visited test_nodes test_witness UnitValue (visit 4 (Pair (Inr UnitValue) UnitValue))
case_visited = Onward (visit 5 UnitValue) (visit 4 (Pair (Inr UnitValue) UnitValue)) 1 Start refl

-- the one case stands at 4, and is visited on its right side alone
case_at : (i : ℕ) → IsCaseAt test_nodes i → i ≡ 4
case_at zero h = absurd (let e = h.2 in cc)
case_at (suc zero) h = absurd (let e = h.2 in cc)
case_at (suc (suc zero)) h = absurd (let e = h.2 in cc)
case_at (suc (suc (suc zero))) h = absurd (let e = h.2 in cc)
case_at (suc (suc (suc (suc zero)))) h = refl
case_at (suc (suc (suc (suc (suc zero))))) h = absurd (let e = h.2 in cc)
case_at (suc (suc (suc (suc (suc (suc i)))))) h = absurd (let e = h.2 in cc)

right_alone : (s : Visit) (a c : Value) → Seen s → s.at ≡ 4 → s.on ≡ Pair (Inl a) c → ⊥
right_alone _ a c SeenRoot e f = absurd (omega arith)
right_alone _ a c SeenPair e f = absurd (omega arith)
right_alone _ a c SeenWitness e f = absurd (omega arith)
right_alone _ a c SeenUnit e f = absurd (omega arith)
right_alone _ a c SeenCase e f = absurd (cc)
right_alone _ a c SeenSide e f = absurd (omega arith)

not_left : (i : ℕ) → i ≡ 4 → IsVisitedLeft test_nodes test_witness UnitValue i → ⊥
not_left i e h = right_alone (visit i (Pair (Inl h.1) h.2)) h.1 h.2 (all_seen (visit i (Pair (Inl h.1) h.2)) h.3) e refl

pub hide_left : (b : Bool) → hide_if b ≡ HideLeft → b ≡ true
unfolding hide_if
hide_left true e = refl
hide_left false e = absurd (cc)

pub hide_right : (b : Bool) → hide_if b ≡ HideRight → ⊥
unfolding hide_if
hide_right true e = absurd (cc)
hide_right false e = absurd (cc)

visited_right : (i : ℕ) → i ≡ 4 → IsVisitedRight test_nodes test_witness UnitValue i
visited_right i e = subst (IsVisitedRight test_nodes test_witness UnitValue) (sym e) ((3, 3, refl), UnitValue, UnitValue, case_visited)

open_at : (i : ℕ) → i ≡ 4 → IsOpenAt test_nodes i
open_at i e = subst (IsOpenAt test_nodes) (sym e) (record { left = 3; right = 3; here = refl; left_shown = tt; right_shown = tt })

unvisited : HidesUnvisited test_nodes test_witness UnitValue test_choices
unfolding hide_if
unvisited = record {
  left = λ i. (
    λ e. let at : i ≡ 4 = eqb-true i 4 (hide_left (nat_eq i 4) e) in (open_at i at, visited_right i at, not_left i at),
    λ h. let at : i ≡ 4 = case_at i h.1.0 in subst (λ (k : ℕ). test_choices k ≡ HideLeft) (sym at) refl,
  );
  right = λ i. (
    λ e. absurd (hide_right (nat_eq i 4) e),
    λ h. absurd (not_left i (case_at i h.1.0) h.1),
  );
}

-- the least typing of what is kept
abbrev kept_typing : Typing
kept_typing =
    shown One bit ∷ shown One One ∷ shown One (Product bit One) ∷ None ∷ shown (Product One One) One ∷ shown (Product bit One) One ∷ shown One One ∷ []

kept_below : (us : Typing) → IsTypingAt kept_nodes (arrow One One) us → (k a b c : Kind) → k ≡ Product (Sum a b) c → c ≡ One → HasArrow us 5 k One →
    HasArrow us 4 (Product b c) One → HasArrow us 2 One k → HasArrow us 0 One (Sum a b) → HasArrow us 1 One c → IsTypingBelow kept_typing us
kept_below us h k a b c k_is c_is h5 h4 h2 h0 h1 =
    let tested : k ≡ Product (Sum a b) One = cc in
    let held : Product b c ≡ Product b One = cc in
    let es = shown One (Sum a b) ∷ shown One One ∷ shown One (Product (Sum a b) One) ∷ None ∷ shown (Product b One) One ∷
    shown (Product (Sum a b) One) One ∷ shown One One ∷ [] in
    let entries : HasFrom us 0 es = (
      h0,
      (
        same_arrow us 1 One c One One h1 refl c_is,
        (
          same_arrow us 2 One k One (Product (Sum a b) One) h2 refl tested,
          (
            hidden_at us kept_nodes 3 (root term.UnitTerm) h.typed refl,
            (
              same_arrow us 4 (Product b c) One (Product b One) One h4 held refl,
              (same_arrow us 5 k One (Product (Sum a b) One) One h5 tested refl, (h.rooted, tt)),
            ),
          ),
        ),
      ),
    ) in
    let same : us ≡ es = same_list us es (typing_length us kept_nodes us h.typed) entries in
    subst (IsTypingBelow kept_typing) (sym same)
    ((tt, (tt, tt)), ((tt, tt), ((tt, ((tt, tt), tt)), (tt, (((tt, tt), tt), ((((tt, tt), tt), tt), ((tt, tt), tt)))))))

kept_least : IsLeast kept_nodes (arrow One One) kept_typing
kept_least = record {
  typing = record {
    typed = (
      row.Witness One bit,
      (
        row.UnitNode One,
        (
          row.Pair 0 1 One bit One refl refl,
          (
            tt,
            (
              row.UnitNode (Product One One),
              (row.AssertR 3 4 One One One One refl refl, (row.Comp 2 5 One (Product bit One) One refl refl, tt)),
            ),
          ),
        ),
      ),
    );
    rooted = refl;
  };
  least = λ us h.
      let whole = comp_meets us 2 5 One One (meets_at us kept_nodes 6 (node.Comp 2 5) One One h.typed refl h.rooted) in
      let k = whole.0 in
      let side = assertr_meets us 3 4 k One (meets_at us kept_nodes 5 (node.Case 3 4) k One h.typed refl whole.2)
      (hidden_at us kept_nodes 3 (root term.UnitTerm) h.typed refl) in
      let parts = pair_parts us 0 1 One k (Sum side.0 side.1) side.2 (meets_at us kept_nodes 2 (node.Pair 0 1) One k h.typed refl whole.1) side.3 in
      let one = unit_meets us One side.2 (meets_at us kept_nodes 1 node.UnitNode One side.2 h.typed refl parts.1) in
      kept_below us h k side.0 side.1 side.2 side.3 one whole.2 side.4 whole.1 parts.0 parts.1;
}

renamed_self : (n : Node) → renamed (λ i. i) n ≡ n
renamed_self node.Iden = refl
renamed_self node.UnitNode = refl
renamed_self (node.Injl i) = refl
renamed_self (node.Injr i) = refl
renamed_self (node.Take i) = refl
renamed_self (node.Drop i) = refl
renamed_self (node.Comp i j) = refl
renamed_self (node.Case i j) = refl
renamed_self (node.Pair i j) = refl
renamed_self (node.Hidden h) = refl
renamed_self (node.Fail e) = refl
renamed_self node.Witness = refl
renamed_self (node.Word k n) = refl

merged_self : IsMerged kept_nodes kept_typing kept_nodes kept_typing (λ i. i)
merged_self = record {
  root = refl;
  nodes = λ i n is. is ∙ ap Some (sym (renamed_self n));
  arrows = λ i h. refl;
  apart = λ i j g h e. e;
}

mark_apart : Node → Option (Option Arrow) → ℕ
mark_apart (node.Hidden h) e = 9
mark_apart n e = mark_with n e

kept_canonical : IsCanonicalUnder kept_nodes (arrow One One) kept_typing
unfolding mark_apart
kept_canonical = record { placed = (tt, (tt, ((tt, tt), (tt, (tt, (tt, ((tt, tt), tt))))))); ordered = refl; least = kept_least; shared = shared_by mark_apart kept_nodes kept_typing refl }

-- nothing is merged, so each node comes from the place that ended at its index
abbrev kept_places : List ℕ
kept_places = 6 ∷ 7 ∷ 8 ∷ 3 ∷ 9 ∷ 10 ∷ 11 ∷ []

kept_order : post_order hidden_nodes ≡ kept_places
unfolding hide_if
kept_order = refl

position_at : (b : Bool) (x y : ℕ) (ys : List ℕ) → nat_eq x y ≡ b → (has x ys ≡ true → slice_get ys (position_or_len (nat_eq x) ys) ≡ Some x) → b || has x ys ≡ true →
    slice_get (y ∷ ys) (position_or_len (nat_eq x) (y ∷ ys)) ≡ Some x
position_at true x y ys e rest h = rw e (ap Some (sym (eqb-true x y e)))
position_at false x y ys e rest h =
    let later : 1 + position_or_len (nat_eq x) ys ≡ suc (position_or_len (nat_eq x) ys) = omega arith in
    rw e (ap (slice_get (y ∷ ys)) later ∙ rest h)

position_there : (x : ℕ) (xs : List ℕ) → has x xs ≡ true → slice_get xs (position_or_len (nat_eq x) xs) ≡ Some x
position_there x [] h = absurd (cc)
position_there x (y ∷ ys) h = position_at (nat_eq x y) x y ys refl (position_there x ys) h

same_place : (x y : ℕ) → Some x ≡ Some y → x ≤ y
same_place x y e = let same : x ≡ y = cc in omega arith

kept_became : (new old place : ℕ) → Some place ≡ Some old → Became hidden_nodes (λ i. i) place new → Became hidden_nodes (λ i. i) old new
kept_became new old place at from = let same : place ≡ old = cc in subst (λ (x : ℕ). Became hidden_nodes (λ i. i) x new) same from

became_at : (new old : ℕ) → slice_get kept_places new ≡ Some old → Became hidden_nodes (λ i. i) old new
unfolding hide_if
became_at zero old at = kept_became 0 old 6 at (record { reached = refl; goes = refl })
became_at (suc zero) old at = kept_became 1 old 7 at (record { reached = refl; goes = refl })
became_at (suc (suc zero)) old at = kept_became 2 old 8 at (record { reached = refl; goes = refl })
became_at (suc (suc (suc zero))) old at = kept_became 3 old 3 at (record { reached = refl; goes = refl })
became_at (suc (suc (suc (suc zero)))) old at = kept_became 4 old 9 at (record { reached = refl; goes = refl })
became_at (suc (suc (suc (suc (suc zero))))) old at = kept_became 5 old 10 at (record { reached = refl; goes = refl })
became_at (suc (suc (suc (suc (suc (suc zero)))))) old at = kept_became 6 old 11 at (record { reached = refl; goes = refl })
became_at (suc (suc (suc (suc (suc (suc (suc n))))))) old at = absurd (cc)

kept_from : ArePlaces hidden_nodes kept_nodes (λ i. i) kept_places
unfolding hide_if
kept_from = record {
  count = refl;
  became = became_at;
  least = λ new old other at from.
      let there : slice_get kept_places (position_or_len (nat_eq other) kept_places) ≡ Some other = position_there other kept_places from.reached in
      same_place old other (sym at ∙ ap (slice_get kept_places) (sym from.goes) ∙ there);
}

test_pruned : IsPruned test_nodes test_witness kept_nodes kept_typing test_witness
unfolding hide_if
test_pruned = record {
  hidden = hidden_nodes;
  places = kept_places;
  hide = record { choices = test_choices; unvisited = unvisited; is_cut = refl };
  reordered = record { typing = kept_typing; place = λ i. i; least = kept_least; merged = merged_self; canonical = kept_canonical; from = kept_from };
  values = refl;
}
