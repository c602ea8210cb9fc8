-- Each witness leaf has a node of its own where no witness node has two places in the tree.
use Rattle.std.proofs.Common.{◌≡◌, refl, ap, sym, subst, ◌∙◌, ℕ, zero, suc, ◌+◌, ◌-◌, ◌<◌, ◌≤◌, ◌⊎◌, inl, inr, Bool, true, false, ◌||◌, true≢false, List, [], ◌∷◌, ◌++◌, length, take, Option, Some, arith, eqb-true, eq-eqb, length-append, append-nil, if◌then◌else◌}
use Rattle.std.specs.Prelude.{slice_get, nat_eq}
use Rattle.std.proofs.lemmas.List.Folds.{list_any-append}
use Rattle.simplicity.specs.Nodes as node
use Rattle.simplicity.specs.Nodes.{Node, AreUnder, children, IsPlaced, count_after, witness_number}
use Rattle.simplicity.specs.Order.{has, over, unless_ended, children_of, children_at, ended, post_order}
use Rattle.simplicity.specs.Typing.{Typing}
use Rattle.simplicity.specs.Pruning.{picked}
use Rattle.simplicity.specs.Canon as declared
use Rattle.simplicity.specs.Canon.{Declared, Stands, leaves}
use Rattle.sharing.specs.Leaves.{own_leaf, each_in, leaf_nodes, NoneTwice, WitnessesStandAlone}
use Rattle.sharing.proofs.Closed.{IsDown, AllHad, IsClosed}
use Rattle.sharing.proofs.Merging.{there_at}
use Rattle.sharing.proofs.Walks.{or_left, or_right, or_case, ends_gets, ends_closed}
use Rattle.sharing.proofs.Orderly.{Found, found, post_order_ends, post_orderly}
use Rattle.sharing.proofs.Gathering.{down_of, children_are, Within, within_rest, picked_is, picked_within, post_picked}
use Rattle.sharing.proofs.Unfolded.{count_renamed}

-- the leaves of a node that is there
leaf_at : (ns : List Node) (d i : ℕ) (n : Node) → slice_get ns i ≡ Some n → leaf_nodes ns (suc d) i ≡ own_leaf (Some n) i ++ each_in (leaf_nodes ns d) (children n)
leaf_at ns d i n is = ap (λ (o : Option Node). own_leaf o i ++ each_in (leaf_nodes ns d) (children_of o)) is

hidden_leaf : (ns : List Node) (d i : ℕ) (h : List ℕ) → slice_get ns i ≡ Some (node.Hidden h) → length (leaf_nodes ns d i) ≡ 0
hidden_leaf ns zero i h is = refl
hidden_leaf ns (suc d) i h is = ap length (leaf_at ns d i (node.Hidden h) is)

under_of : (ns : List Node) (i : ℕ) (n : Node) → IsDown ns → slice_get ns i ≡ Some n → AreUnder i (children n)
under_of ns i n down is = subst (AreUnder i) (children_are ns i n is) (down i)

one_child : (xs : List ℕ) (n : ℕ) → length xs ≡ n → length (xs ++ []) ≡ n
one_child xs n e = ap length (append-nil xs) ∙ e

two_children : (xs ys : List ℕ) (n m : ℕ) → length xs ≡ n → length ys ≡ m → length (xs ++ (ys ++ [])) ≡ n + m
two_children xs ys n m e f = omega (arith, length-append xs (ys ++ []), e, one_child ys m f)

leaf_count : (ns : List Node) (ds : Typing) (names : List ℕ) → IsDown ns → (d i : ℕ) (t : Declared) → i < d → Stands ns ds names i t → length (leaf_nodes ns d i) ≡ leaves t
leaf_count ns ds names down zero i t l stands = absurd (omega (arith, l))
leaf_count ns ds names down (suc d) _ _ l (declared.StandsIden i a is e) = ap length (leaf_at ns d i node.Iden is)
leaf_count ns ds names down (suc d) _ _ l (declared.StandsUnit i a is e) = ap length (leaf_at ns d i node.UnitNode is)
leaf_count ns ds names down (suc d) _ _ l (declared.StandsInjl i j a t is e s) =
    let under = under_of ns i (node.Injl j) down is in
    ap length (leaf_at ns d i (node.Injl j) is) ∙ one_child (leaf_nodes ns d j) (leaves t) (leaf_count ns ds names down d j t (omega (arith, l, under.0)) s)
leaf_count ns ds names down (suc d) _ _ l (declared.StandsInjr i j a t is e s) =
    let under = under_of ns i (node.Injr j) down is in
    ap length (leaf_at ns d i (node.Injr j) is) ∙ one_child (leaf_nodes ns d j) (leaves t) (leaf_count ns ds names down d j t (omega (arith, l, under.0)) s)
leaf_count ns ds names down (suc d) _ _ l (declared.StandsTake i j a t is e s) =
    let under = under_of ns i (node.Take j) down is in
    ap length (leaf_at ns d i (node.Take j) is) ∙ one_child (leaf_nodes ns d j) (leaves t) (leaf_count ns ds names down d j t (omega (arith, l, under.0)) s)
leaf_count ns ds names down (suc d) _ _ l (declared.StandsDrop i j a t is e s) =
    let under = under_of ns i (node.Drop j) down is in
    ap length (leaf_at ns d i (node.Drop j) is) ∙ one_child (leaf_nodes ns d j) (leaves t) (leaf_count ns ds names down d j t (omega (arith, l, under.0)) s)
leaf_count ns ds names down (suc d) _ _ l (declared.StandsComp i j k a t u is e s r) =
    let under = under_of ns i (node.Comp j k) down is in
    ap length (leaf_at ns d i (node.Comp j k) is)
    ∙ two_children (leaf_nodes ns d j) (leaf_nodes ns d k) (leaves t) (leaves u) (leaf_count ns ds names down d j t (omega (arith, l, under.0)) s) (leaf_count ns ds names down d k u (omega (arith, l, under.1.0)) r)
leaf_count ns ds names down (suc d) _ _ l (declared.StandsCase i j k a t u is e s r) =
    let under = under_of ns i (node.Case j k) down is in
    ap length (leaf_at ns d i (node.Case j k) is)
    ∙ two_children (leaf_nodes ns d j) (leaf_nodes ns d k) (leaves t) (leaves u) (leaf_count ns ds names down d j t (omega (arith, l, under.0)) s) (leaf_count ns ds names down d k u (omega (arith, l, under.1.0)) r)
leaf_count ns ds names down (suc d) _ _ l (declared.StandsPair i j k a t u is e s r) =
    let under = under_of ns i (node.Pair j k) down is in
    ap length (leaf_at ns d i (node.Pair j k) is)
    ∙ two_children (leaf_nodes ns d j) (leaf_nodes ns d k) (leaves t) (leaves u) (leaf_count ns ds names down d j t (omega (arith, l, under.0)) s) (leaf_count ns ds names down d k u (omega (arith, l, under.1.0)) r)
leaf_count ns ds names down (suc d) _ _ l (declared.StandsAssertL i j k a t h is e s there none) =
    let under = under_of ns i (node.Case j k) down is in
    let sum : leaves t + 0 ≡ leaves t = omega arith in
    ap length (leaf_at ns d i (node.Case j k) is)
    ∙ two_children (leaf_nodes ns d j) (leaf_nodes ns d k) (leaves t) 0 (leaf_count ns ds names down d j t (omega (arith, l, under.0)) s) (hidden_leaf ns d k h there) ∙ sum
leaf_count ns ds names down (suc d) _ _ l (declared.StandsAssertR i j k a h t is e there none s) =
    let under = under_of ns i (node.Case j k) down is in
    let sum : 0 + leaves t ≡ leaves t = omega arith in
    ap length (leaf_at ns d i (node.Case j k) is)
    ∙ two_children (leaf_nodes ns d j) (leaf_nodes ns d k) 0 (leaves t) (hidden_leaf ns d j h there) (leaf_count ns ds names down d k t (omega (arith, l, under.1.0)) s) ∙ sum
leaf_count ns ds names down (suc d) _ _ l (declared.StandsFail i a b is e) = ap length (leaf_at ns d i (node.Fail b) is)
leaf_count ns ds names down (suc d) _ _ l (declared.StandsWitness i number a is e name) = ap length (leaf_at ns d i node.Witness is)
leaf_count ns ds names down (suc d) _ _ l (declared.StandsWord i k n a is e) = ap length (leaf_at ns d i (node.Word k n) is)

-- the witness nodes among these
abbrev witnesses : List Node → List ℕ → List ℕ
witnesses ns is = each_in (λ i. own_leaf (slice_get ns i) i) is

count_own : (m : Node) (x w : ℕ) → count_after m w ≡ length (own_leaf (Some m) x) + w
count_own node.Witness x w = omega arith
count_own _ x w = omega arith

picked_total : (f : ℕ → ℕ) (ns : List Node) (is : List ℕ) → Within ns is → witness_number (picked f ns is) (length (picked f ns is)) ≡ length (witnesses ns is)
picked_total f ns [] within = refl
picked_total f ns (x ∷ is) within =
    let m = there_at ns x (within.each 0 x refl) in
    let rest = picked_total f ns is (within_rest ns x is within) in
    ap (λ (l : List Node). witness_number l (length l)) (picked_is f ns is x m.0 m.1)
    ∙ count_renamed f m.0 (witness_number (picked f ns is) (length (picked f ns is))) ∙ count_own m.0 x (witness_number (picked f ns is) (length (picked f ns is)))
    ∙ ap (λ (w : ℕ). length (own_leaf (Some m.0) x) + w) rest ∙ sym (length-append (own_leaf (Some m.0) x) (witnesses ns is))
    ∙ ap (λ (o : Option Node). length (own_leaf o x ++ witnesses ns is)) (sym m.1)

-- which numbers a list has
has_both : (k : ℕ) (xs ys : List ℕ) → has k (xs ++ ys) ≡ (has k xs || has k ys)
has_both k xs ys = list_any-append (nat_eq k) xs ys

has_side : {C : Type 0} (k : ℕ) (xs ys : List ℕ) → has k (xs ++ ys) ≡ true → (has k xs ≡ true → C) → (has k ys ≡ true → C) → C
has_side k xs ys h f g = or_case (has k xs) (has k ys) (sym (has_both k xs ys) ∙ h) f g

has_left : (k : ℕ) (xs ys : List ℕ) → has k xs ≡ true → has k (xs ++ ys) ≡ true
has_left k xs ys h = has_both k xs ys ∙ or_left (has k xs) (has k ys) h

has_right : (k : ℕ) (xs ys : List ℕ) → has k ys ≡ true → has k (xs ++ ys) ≡ true
has_right k xs ys h = has_both k xs ys ∙ or_right (has k xs) (has k ys) h

has_one : (k i : ℕ) → has k (i ∷ []) ≡ true → k ≡ i
has_one k i h = or_case (nat_eq k i) false h (λ g. eqb-true k i g) (λ g. absurd (true≢false (sym g)))

has_here : (i : ℕ) (is : List ℕ) → has i (i ∷ is) ≡ true
has_here i is = or_left (nat_eq i i) (has i is) (eq-eqb i i refl)

no_hit : (b : Bool) → (b ≡ true → ⊥) → b ≡ false
no_hit true h = absurd (h refl)
no_hit false h = refl

own_has : (o : Option Node) (k i : ℕ) → has k (own_leaf o i) ≡ true → (k ≡ i) × (o ≡ Some node.Witness)
own_has (Some node.Witness) k i h = (has_one k i h, refl)
own_has _ k i h = absurd (true≢false (sym h))

own_self : (o : Option Node) (i : ℕ) → o ≡ Some node.Witness → has i (own_leaf o i) ≡ true
own_self o i e = ap (λ (x : Option Node). has i (own_leaf x i)) e ∙ has_here i []

-- a witness node that is among these
witness_has : (ns : List Node) (is : List ℕ) (k : ℕ) → has k is ≡ true → slice_get ns k ≡ Some node.Witness → has k (witnesses ns is) ≡ true
witness_has ns [] k h w = h
witness_has ns (i ∷ is) k h w =
    or_case (nat_eq k i) (has k is) h
    (λ g. let same = eqb-true k i g in has_left k (own_leaf (slice_get ns i) i) (witnesses ns is) (ap (λ (x : ℕ). has k (own_leaf (slice_get ns x) x)) (sym same) ∙ own_self (slice_get ns k) k w))
    (λ g. has_right k (own_leaf (slice_get ns i) i) (witnesses ns is) (witness_has ns is k g w))

witness_from : (ns : List Node) (is : List ℕ) (k : ℕ) → has k (witnesses ns is) ≡ true → (has k is ≡ true) × (slice_get ns k ≡ Some node.Witness)
witness_from ns [] k h = absurd (true≢false (sym h))
witness_from ns (i ∷ is) k h =
    has_side k (own_leaf (slice_get ns i) i) (witnesses ns is) h
    (λ g. let own = own_has (slice_get ns i) k i g in (or_left (nat_eq k i) (has k is) (eq-eqb k i own.0), ap (slice_get ns) own.0 ∙ own.1))
    (λ g. let rest = witness_from ns is k g in (or_right (nat_eq k i) (has k is) rest.0, rest.1))

-- with a node that has ended its leaves have
each_had : (ns : List Node) (done : List ℕ) (d k : ℕ) (is : List ℕ) → ((i : ℕ) → has i done ≡ true → has k (leaf_nodes ns d i) ≡ true → has k (witnesses ns done) ≡ true) →
    AllHad done is → has k (each_in (leaf_nodes ns d) is) ≡ true → has k (witnesses ns done) ≡ true
each_had ns done d k [] on all h = absurd (true≢false (sym h))
each_had ns done d k (i ∷ is) on all h =
    has_side k (leaf_nodes ns d i) (each_in (leaf_nodes ns d) is) h (λ g. on i all.0 g) (λ g. each_had ns done d k is on all.1 g)

leaves_had : (ns : List Node) (done : List ℕ) → IsClosed ns done → (d i k : ℕ) → has i done ≡ true → has k (leaf_nodes ns d i) ≡ true → has k (witnesses ns done) ≡ true
leaves_had ns done closed zero i k there h = absurd (true≢false (sym h))
leaves_had ns done closed (suc d) i k there h =
    has_side k (own_leaf (slice_get ns i) i) (each_in (leaf_nodes ns d) (children_at ns i)) h
    (λ g. let own = own_has (slice_get ns i) k i g in witness_has ns done k (ap (λ (x : ℕ). has x done) own.0 ∙ there) (ap (slice_get ns) own.0 ∙ own.1))
    (λ g. each_had ns done d k (children_at ns i) (λ j e f. leaves_had ns done closed d j k e f) (closed i there) g)

-- and a witness node that has ended is a leaf, or had ended before
over_gives : (ns : List Node) (d k : ℕ) → ((i : ℕ) (done : List ℕ) → has k (ended ns d i done) ≡ true → (has k done ≡ true) ⊎ (has k (leaf_nodes ns d i) ≡ true)) → (is done : List ℕ) →
    has k (over (ended ns d) is done) ≡ true → (has k done ≡ true) ⊎ (has k (each_in (leaf_nodes ns d) is) ≡ true)
over_gives ns d k on [] done h = inl h
over_gives ns d k on (i ∷ is) done h = elim (over_gives ns d k on is (ended ns d i done) h) [
  | inl g ↦ elim (on i done g) [ inl f ↦ inl f | inr f ↦ inr (has_left k (leaf_nodes ns d i) (each_in (leaf_nodes ns d) is) f) ]
  | inr g ↦ inr (has_right k (leaf_nodes ns d i) (each_in (leaf_nodes ns d) is) g)
]

unless_gives : (b : Bool) (ns : List Node) (d i k : ℕ) (done : List ℕ) → slice_get ns k ≡ Some node.Witness →
    ((is ended_before : List ℕ) → has k (over (ended ns d) is ended_before) ≡ true → (has k ended_before ≡ true) ⊎ (has k (each_in (leaf_nodes ns d) is) ≡ true)) →
    has k (unless_ended b i (over (ended ns d) (children_at ns i)) done) ≡ true → (has k done ≡ true) ⊎ (has k (leaf_nodes ns (suc d) i) ≡ true)
unless_gives true ns d i k done w on h = inl h
unless_gives false ns d i k done w on h =
    has_side k (over (ended ns d) (children_at ns i) done) (i ∷ []) h
    (λ g. elim (on (children_at ns i) done g) [ inl f ↦ inl f | inr f ↦ inr (has_right k (own_leaf (slice_get ns i) i) (each_in (leaf_nodes ns d) (children_at ns i)) f) ])
    (λ g.
    let same = has_one k i g in
    let own : has k (own_leaf (slice_get ns i) i) ≡ true = ap (λ (x : ℕ). has k (own_leaf (slice_get ns x) x)) (sym same) ∙ own_self (slice_get ns k) k w in
    inr (has_left k (own_leaf (slice_get ns i) i) (each_in (leaf_nodes ns d) (children_at ns i)) own))

walk_gives : (ns : List Node) (d i k : ℕ) (done : List ℕ) → slice_get ns k ≡ Some node.Witness → has k (ended ns d i done) ≡ true → (has k done ≡ true) ⊎ (has k (leaf_nodes ns d i) ≡ true)
walk_gives ns zero i k done w h = inl h
walk_gives ns (suc d) i k done w h = unless_gives (has i done) ns d i k done w (λ is before g. over_gives ns d k (λ j x f. walk_gives ns d j k x w f) is before g) h

-- lists without repeats
none_twice : (done : List ℕ) → ((k i : ℕ) → slice_get done k ≡ Some i → has i (take k done) ≡ false) → NoneTwice done
none_twice [] once = tt
none_twice (i ∷ is) once = (
  no_hit (has i is) (λ h. let at = found i is h in true≢false (sym (has_here i (take at.place is)) ∙ once (suc at.place) i at.there)),
  none_twice is (λ k j h. no_hit (has j (take k is)) (λ g. true≢false (sym (or_right (nat_eq j i) (has j (take k is)) g) ∙ once (suc k) j h))),
)

own_once : (o : Option Node) (i : ℕ) (xs : List ℕ) → has i xs ≡ false → NoneTwice xs → NoneTwice (own_leaf o i ++ xs)
own_once (Some node.Witness) i xs h rest = (h, rest)
own_once _ i xs h rest = rest

witnesses_once : (ns : List Node) (is : List ℕ) → NoneTwice is → NoneTwice (witnesses ns is)
witnesses_once ns [] once = tt
witnesses_once ns (i ∷ is) once =
    own_once (slice_get ns i) i (witnesses ns is) (no_hit (has i (witnesses ns is)) (λ h. true≢false (sym (witness_from ns is i h).0 ∙ once.0))) (witnesses_once ns is once.1)

without : ℕ → List ℕ → List ℕ
without x [] = []
without x (y ∷ ys) = if nat_eq x y then ys else y ∷ without x ys

without_step : (b : Bool) (x y : ℕ) (ys : List ℕ) → nat_eq x y ≡ b → without x (y ∷ ys) ≡ (if b then ys else y ∷ without x ys)
unfolding without
without_step b x y ys e = ap (λ (c : Bool). if c then ys else y ∷ without x ys) e

without_long : (x : ℕ) (ys : List ℕ) → has x ys ≡ true → length ys ≡ suc (length (without x ys))
without_long x [] h = absurd (true≢false (sym h))
without_long x (y ∷ ys) h = by (nat_eq x y) refl (without_long x ys)
  where
    by : (b : Bool) → nat_eq x y ≡ b → (has x ys ≡ true → length ys ≡ suc (length (without x ys))) → length (y ∷ ys) ≡ suc (length (without x (y ∷ ys)))
    by true e rest = ap (λ (l : List ℕ). suc (length l)) (sym (without_step true x y ys e))
    by false e rest =
        let later : has x ys ≡ true = sym (ap (λ (c : Bool). c || has x ys) e) ∙ h in
        ap suc (rest later) ∙ ap (λ (l : List ℕ). suc (length l)) (sym (without_step false x y ys e))

without_has : (x k : ℕ) (ys : List ℕ) → (k ≡ x → ⊥) → has k ys ≡ true → has k (without x ys) ≡ true
without_has x k [] other h = absurd (true≢false (sym h))
without_has x k (y ∷ ys) other h = by (nat_eq x y) refl (without_has x k ys other)
  where
    by : (b : Bool) → nat_eq x y ≡ b → (has k ys ≡ true → has k (without x ys) ≡ true) → has k (without x (y ∷ ys)) ≡ true
    by true e rest =
        ap (has k) (without_step true x y ys e) ∙ or_case (nat_eq k y) (has k ys) h (λ g. absurd (other (eqb-true k y g ∙ sym (eqb-true x y e)))) (λ g. g)
    by false e rest =
        ap (has k) (without_step false x y ys e)
        ∙ or_case (nat_eq k y) (has k ys) h (λ g. or_left (nat_eq k y) (has k (without x ys)) g) (λ g. or_right (nat_eq k y) (has k (without x ys)) (rest g))

no_longer : (xs ys : List ℕ) → NoneTwice xs → ((k : ℕ) → has k xs ≡ true → has k ys ≡ true) → length xs ≤ length ys
no_longer [] ys once on = omega arith
no_longer (x ∷ xs) ys once on =
    let there = on x (has_here x xs) in
    let rest = no_longer xs (without x ys) once.1
    (λ k h. without_has x k ys (λ e. true≢false (sym (ap (λ (y : ℕ). has y xs) (sym e) ∙ h) ∙ once.0)) (on k (or_right (nat_eq k x) (has k xs) h))) in
    omega (arith, rest, without_long x ys there)

none_closed : (ns : List Node) → IsClosed ns []
none_closed ns j h = absurd (true≢false (sym h))

pub witnesses_stand_alone : WitnessesStandAlone
witnesses_stand_alone ns ds names t placed full stands once =
    let down = down_of ns placed in
    let done = post_order ns in
    let root : length ns - 1 < length ns = omega (arith, full) in
    let is_walk = post_order_ends ns down full in
    let closed : IsClosed ns (post_order ns) = subst (IsClosed ns) (sym is_walk) (ends_closed ns down (length ns - 1) [] (none_closed ns)) in
    let there : has (length ns - 1) (post_order ns) ≡ true = ap (has (length ns - 1)) is_walk ∙ ends_gets ns (length ns - 1) [] in
    let p = post_picked ns placed full in
    let fewer = no_longer (leaf_nodes ns (length ns) (length ns - 1)) (witnesses ns (post_order ns)) once (λ k h. leaves_had ns (post_order ns) closed (length ns) (length ns - 1) k there h) in
    let more = no_longer (witnesses ns (post_order ns)) (leaf_nodes ns (length ns) (length ns - 1))
    (witnesses_once ns (post_order ns) (none_twice (post_order ns) (post_orderly ns down full).once))
    (λ k h.
    let from = witness_from ns (post_order ns) k h in
    elim (walk_gives ns (length ns) (length ns - 1) k [] from.1 from.0) [ inl g ↦ absurd (true≢false (sym g)) | inr g ↦ g ]) in
    let count = leaf_count ns ds names down (length ns) (length ns - 1) t root stands in
    let total = picked_total (λ i. Rattle.sharing.proofs.Orderly.position i (post_order ns)) ns (post_order ns) (picked_within ns (post_order ns) p) in
    let same : length (witnesses ns (post_order ns)) ≡ length (leaf_nodes ns (length ns) (length ns - 1)) = omega (arith, fewer, more) in
    total ∙ same ∙ count
