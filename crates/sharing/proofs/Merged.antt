-- Merged lists: their order, and that a list is merged in one way at most.
use Rattle.std.proofs.Common.{◌≡◌, refl, ap, sym, subst, ◌∙◌, ℕ, zero, suc, ◌+◌, ◌-◌, ◌<◌, ◌≤◌, Bool, true, false, ◌||◌, List, [], ◌∷◌, ◌++◌, length, map, Some, arith, append_assoc, eqb-true, eq-eqb}
use Rattle.std.specs.Prelude.{slice_get, nat_eq}
use Rattle.std.specs.List.{range_with_len}
use Rattle.simplicity.specs.Nodes as node
use Rattle.simplicity.specs.Nodes.{Node, AreUnder, children, IsPlaced}
use Rattle.simplicity.specs.Order.{has, unless_ended, children_at, post_order, IsOrdered}
use Rattle.simplicity.specs.Typing.{Typing}
use Rattle.simplicity.specs.Shared.{IsShared}
use Rattle.simplicity.specs.Pruning.{renamed, IsMerged}
use Rattle.sharing.specs.Images.{added, into, images}
use Rattle.sharing.proofs.Closed.{AllOf}
use Rattle.sharing.specs.Laws.{IsOnto}
use Rattle.sharing.proofs.Merging.{within_of, there_at}
use Rattle.sharing.proofs.Walks.{Carries, post_order_carried, or_case, has_last}
use Rattle.sharing.proofs.Orderly.{has_range_past, range_last, range_get, range_length, post_orderly}
use Rattle.sharing.proofs.Gathering.{down_of, children_are, children_renamed}

all_under : (i n : ℕ) (is : List ℕ) → i ≤ n → AreUnder i is → AllOf (λ j. j < n) is
all_under i n [] l u = tt
all_under i n (j ∷ is) l u = (omega (arith, u.0), all_under i n is l u.1)

pub merge_carries : (ns ms : List Node) (ts us : Typing) (f : ℕ → ℕ) → IsPlaced ns → IsPlaced ms → IsMerged ns ts ms us f → Carries (λ i. i < length ns) f ns ms
merge_carries ns ms ts us f placed more merged = record {
  below = down_of ns placed;
  under = down_of ms more;
  children = λ i h.
      let n = there_at ns i h in
      children_are ms (f i) (renamed f n.0) (merged.nodes i n.0 n.1) ∙ children_renamed f n.0 ∙ ap (λ (is : List ℕ). map f is) (sym (children_are ns i n.0 n.1));
  inherit = λ i h. all_under i (length ns) (children_at ns i) (omega arith) (down_of ns placed i);
}

pub merged_post : (ns ms : List Node) (ts us : Typing) (f : ℕ → ℕ) → IsPlaced ns → IsPlaced ms → 0 < length ns → IsMerged ns ts ms us f → post_order ms ≡ images f (post_order ns)
merged_post ns ms ts us f placed more h merged =
    let root = there_at ns (length ns - 1) (omega arith) in
    let there = within_of ms (f (length ns - 1)) (renamed f root.0) (merged.nodes (length ns - 1) root.0 root.1) in
    post_order_carried (λ i. i < length ns) f ns ms (merge_carries ns ms ts us f placed more merged) (omega arith) h (omega arith) merged.root

-- where the places of an ordered list's nodes come in their order, the merged list is ordered
pub merged_ordered : (ns ms : List Node) (ts us : Typing) (f : ℕ → ℕ) → IsPlaced ns → IsPlaced ms → 0 < length ns → IsMerged ns ts ms us f → IsOrdered ns →
    images f (range_with_len 0 (length ns)) ≡ range_with_len 0 (length ms) → IsOrdered ms
merged_ordered ns ms ts us f placed more h merged ordered in_order =
    merged_post ns ms ts us f placed more h merged ∙ ap (images f) ordered ∙ in_order

pub merged_in_order : (ns ms : List Node) (ts us : Typing) (f : ℕ → ℕ) → IsPlaced ns → IsPlaced ms → 0 < length ns → IsMerged ns ts ms us f → IsOrdered ns → IsOrdered ms →
    images f (range_with_len 0 (length ns)) ≡ range_with_len 0 (length ms)
merged_in_order ns ms ts us f placed more h merged ordered after = ap (images f) (sym ordered) ∙ sym (merged_post ns ms ts us f placed more h merged) ∙ after

-- what an image comes from
added_from : {C : Type 0} (b : Bool) (x j : ℕ) (acc : List ℕ) → has j (unless_ended b x (λ d. d) acc) ≡ true → (has j acc ≡ true → C) → (x ≡ j → C) → C
added_from true x j acc h old new = old h
added_from false x j acc h old new =
    or_case (has j acc) (nat_eq j x || false) (sym (has_last j x acc) ∙ h) old (λ g. or_case (nat_eq j x) false g (λ e. new (sym (eqb-true j x e))) (λ e. absurd (cc)))

pub into_from : {C : Type 0} (f : ℕ → ℕ) (j : ℕ) (acc is : List ℕ) → has j (into f acc is) ≡ true → (has j acc ≡ true → C) → ((k i : ℕ) → slice_get is k ≡ Some i → f i ≡ j → C) → C
into_from f j acc [] h old new = old h
into_from f j acc (x ∷ xs) h old new =
    into_from f j (added (f x) acc) xs h (λ g. added_from (has (f x) acc) (f x) j acc g old (λ e. new 0 x refl e)) (λ k i g e. new (suc k) i g e)

pub data Split (a b : ℕ) : Type 0 where
  Less : a < b → Split a b
  More : b ≤ a → Split a b

split_suc : (a b : ℕ) → Split a b → Split (suc a) (suc b)
split_suc a b (Less l) = Less (omega arith)
split_suc a b (More l) = More (omega arith)

pub split : (a b : ℕ) → Split a b
split a zero = More (omega arith)
split zero (suc b) = Less (omega arith)
split (suc a) (suc b) = split_suc a b (split a b)

past_by : (a b : ℕ) → a ≤ b → (b ≡ a → ⊥) → Split a b → a + 1 ≤ b
past_by a b h none (Less l) = omega arith
past_by a b h none (More l) = absurd (none (omega arith))

has_range_by : (b : Bool) (low n k : ℕ) → nat_eq k low ≡ b → low ≤ k → k < low + suc n → ((low + 1 ≤ k) → has k (range_with_len (low + 1) n) ≡ true) →
    has k (range_with_len low (suc n)) ≡ true
has_range_by true low n k e h g rest = rw e refl
has_range_by false low n k e h g rest =
    let apart : k ≡ low → ⊥ = λ same. (let yes : nat_eq k low ≡ true = eq-eqb k low same in absurd (cc)) in
    rw e (rest (past_by low k h apart (split low k)))

pub has_range : (low n k : ℕ) → low ≤ k → k < low + n → has k (range_with_len low n) ≡ true
has_range low zero k h g = absurd (omega arith)
has_range low (suc n) k h g = has_range_by (nat_eq k low) low n k refl h g (λ l. has_range (low + 1) n k l (omega arith))

pub merged_onto : (ns ms : List Node) (ts us : Typing) (f : ℕ → ℕ) → IsPlaced ns → IsPlaced ms → 0 < length ns → IsMerged ns ts ms us f → IsOrdered ms → IsOnto f (length ns) (length ms)
merged_onto ns ms ts us f placed more h merged after j l =
    let there : has j (images f (post_order ns)) ≡ true =
    ap (has j) (sym (merged_post ns ms ts us f placed more h merged) ∙ after) ∙ has_range 0 (length ms) j (omega arith) (omega arith) in
    into_from f j [] (post_order ns) there (λ g. absurd (cc)) (λ k i g e. (i, (post_orderly ns (down_of ns placed) h).within k i g, e))

-- a node with other children
abbrev refilled : Node → List ℕ → Node
refilled (node.Injl i) (j ∷ js) = node.Injl j
refilled (node.Injr i) (j ∷ js) = node.Injr j
refilled (node.Take i) (j ∷ js) = node.Take j
refilled (node.Drop i) (j ∷ js) = node.Drop j
refilled (node.Comp i k) (j ∷ l ∷ js) = node.Comp j l
refilled (node.Case i k) (j ∷ l ∷ js) = node.Case j l
refilled (node.Pair i k) (j ∷ l ∷ js) = node.Pair j l
refilled n js = n

refilled_is : (f h : ℕ → ℕ) (n : Node) → refilled (renamed f n) (map h (children n)) ≡ renamed h n
refilled_is f h node.Iden = refl
refilled_is f h node.UnitNode = refl
refilled_is f h (node.Injl i) = refl
refilled_is f h (node.Injr i) = refl
refilled_is f h (node.Take i) = refl
refilled_is f h (node.Drop i) = refl
refilled_is f h (node.Comp i j) = refl
refilled_is f h (node.Case i j) = refl
refilled_is f h (node.Pair i j) = refl
refilled_is f h (node.Hidden b) = refl
refilled_is f h (node.Fail e) = refl
refilled_is f h node.Witness = refl
refilled_is f h (node.Word k n) = refl

-- where two maps agree on which of these are the same
maps_agree : (f h : ℕ → ℕ) (n m : ℕ) (is js : List ℕ) → AreUnder n is → AreUnder m js → ((i j : ℕ) → i < n → j < m → f i ≡ f j → h i ≡ h j) → map f is ≡ map f js → map h is ≡ map h js
maps_agree f h n m [] [] u v on e = refl
maps_agree f h n m [] (j ∷ js) u v on e = absurd (cc)
maps_agree f h n m (i ∷ is) [] u v on e = absurd (cc)
maps_agree f h n m (i ∷ is) (j ∷ js) u v on e =
    let first : f i ≡ f j = cc in
    let rest : map f is ≡ map f js = cc in
    let here : h i ≡ h j = on i j u.0 v.0 first in
    let more : map h is ≡ map h js = maps_agree f h n m is js u.1 v.1 on rest in
    cc

renamed_agree : (f h : ℕ → ℕ) (i j : ℕ) (n m : Node) → AreUnder i (children n) → AreUnder j (children m) → ((a b : ℕ) → a < i → b < j → f a ≡ f b → h a ≡ h b) →
    renamed f n ≡ renamed f m → renamed h n ≡ renamed h m
renamed_agree f h i j n m u v on e =
    let same_children : map f (children n) ≡ map f (children m) = sym (children_renamed f n) ∙ ap children e ∙ children_renamed f m in
    sym (refilled_is f h n) ∙ ap (λ (x : Node). refilled x (map h (children n))) e
    ∙ ap (refilled (renamed f m)) (maps_agree f h i j (children n) (children m) u v on same_children) ∙ refilled_is f h m

-- a node is a witness or isn't
pub data Kindly (n : Node) : Type 0 where
  IsWitness : n ≡ node.Witness → Kindly n
  IsPlain : ((f : ℕ → ℕ) → renamed f n ≡ node.Witness → ⊥) → Kindly n

pub kindly : (n : Node) → Kindly n
kindly node.Witness = IsWitness refl
kindly node.Iden = IsPlain (λ f e. absurd (cc))
kindly node.UnitNode = IsPlain (λ f e. absurd (cc))
kindly (node.Injl i) = IsPlain (λ f e. absurd (cc))
kindly (node.Injr i) = IsPlain (λ f e. absurd (cc))
kindly (node.Take i) = IsPlain (λ f e. absurd (cc))
kindly (node.Drop i) = IsPlain (λ f e. absurd (cc))
kindly (node.Comp i j) = IsPlain (λ f e. absurd (cc))
kindly (node.Case i j) = IsPlain (λ f e. absurd (cc))
kindly (node.Pair i j) = IsPlain (λ f e. absurd (cc))
kindly (node.Hidden h) = IsPlain (λ f e. absurd (cc))
kindly (node.Fail b) = IsPlain (λ f e. absurd (cc))
kindly (node.Word k n) = IsPlain (λ f e. absurd (cc))

pub neither_below : (a b : ℕ) → (a < b → ⊥) → (b < a → ⊥) → a ≡ b
neither_below zero zero h g = refl
neither_below zero (suc b) h g = absurd (h (omega arith))
neither_below (suc a) zero h g = absurd (g (omega arith))
neither_below (suc a) (suc b) h g = ap suc (neither_below a b (λ l. h (omega arith)) (λ l. g (omega arith)))

pub witness_back : (f : ℕ → ℕ) (n : Node) → renamed f n ≡ node.Witness → n ≡ node.Witness
witness_back f n e = witness_by f n (kindly n) e
  where
    witness_by : (f : ℕ → ℕ) (n : Node) → Kindly n → renamed f n ≡ node.Witness → n ≡ node.Witness
    witness_by f n (IsWitness is) e = is
    witness_by f n (IsPlain none) e = absurd (none f e)

-- a list merged in one way, and in another that is shared: what goes to one node in the one goes to one in the other
record TwoWays (ns ms ls : List Node) (ts us vs : Typing) (f h : ℕ → ℕ) : Type 0 where
  placed : IsPlaced ns
  first : IsMerged ns ts ms us f
  second : IsMerged ns ts ls vs h
  shared : IsShared ls vs

same_by : (ns ms ls : List Node) (ts us vs : Typing) (f h : ℕ → ℕ) → TwoWays ns ms ls ts us vs f h → (i j : ℕ) (n m : Node) → slice_get ns i ≡ Some n → slice_get ns j ≡ Some m → f i ≡ f j →
    ((a b : ℕ) → a < i → b < j → f a ≡ f b → h a ≡ h b) → Kindly n → h i ≡ h j
same_by ns ms ls ts us vs f h w i j n m e g same on (IsWitness is) =
    let nodes : renamed f n ≡ renamed f m =
    let p = w.first.nodes i n e in let q = w.first.nodes j m g in let r = ap (slice_get ms) same in cc in
    let other : m ≡ node.Witness = witness_back f m (sym nodes ∙ ap (renamed f) is) in
    ap h (w.first.apart i j (e ∙ ap Some is) (g ∙ ap Some other) same)
same_by ns ms ls ts us vs f h w i j n m e g same on (IsPlain none) =
    let nodes : renamed f n ≡ renamed f m =
    let p = w.first.nodes i n e in let q = w.first.nodes j m g in let r = ap (slice_get ms) same in cc in
    let un = Rattle.simplicity.proofs.Unfold.children_under ns i n (Rattle.simplicity.proofs.Unfold.follows_at ns i n w.placed e) in
    let um = Rattle.simplicity.proofs.Unfold.children_under ns j m (Rattle.simplicity.proofs.Unfold.follows_at ns j m w.placed g) in
    let alike : renamed h n ≡ renamed h m = renamed_agree f h i j n m un um on nodes in
    let left : slice_get ls (h i) ≡ Some (renamed h n) = w.second.nodes i n e in
    let right : slice_get ls (h j) ≡ Some (renamed h n) = w.second.nodes j m g ∙ ap Some (sym alike) in
    let inside_i = within_of ns i n e in
    let inside_j = within_of ns j m g in
    let arrows : slice_get vs (h i) ≡ slice_get vs (h j) =
    w.second.arrows i inside_i ∙ sym (w.first.arrows i inside_i) ∙ ap (slice_get us) same ∙ w.first.arrows j inside_j ∙ sym (w.second.arrows j inside_j) in
    neither_below (h i) (h j)
    (λ l. w.shared (h i) (h j) l (record { same = renamed h n; first = left; second = right; arrows = arrows; plain = none h }))
    (λ l. w.shared (h j) (h i) l (record { same = renamed h n; first = right; second = left; arrows = sym arrows; plain = none h }))

same_within : (ns ms ls : List Node) (ts us vs : Typing) (f h : ℕ → ℕ) → TwoWays ns ms ls ts us vs f h → (d i j : ℕ) → i < d → i < length ns → j < length ns → f i ≡ f j → h i ≡ h j
same_within ns ms ls ts us vs f h w zero i j l p q same = absurd (omega arith)
same_within ns ms ls ts us vs f h w (suc d) i j l p q same =
    let n = there_at ns i p in
    let m = there_at ns j q in
    same_by ns ms ls ts us vs f h w i j n.0 m.0 n.1 m.1 same (λ a b g k e. same_within ns ms ls ts us vs f h w d a b (omega arith) (omega arith) (omega arith) e) (kindly n.0)

same_way : (ns ms ls : List Node) (ts us vs : Typing) (f h : ℕ → ℕ) → TwoWays ns ms ls ts us vs f h → (i j : ℕ) → i < length ns → j < length ns → f i ≡ f j → h i ≡ h j
same_way ns ms ls ts us vs f h w i j p q same = same_within ns ms ls ts us vs f h w (suc i) i j (omega arith) p q same

-- two maps whose images come in their order, and which agree on what is the same, are the same
into_grows : (f : ℕ → ℕ) (acc is : List ℕ) → (more : List ℕ) × (into f acc is ≡ acc ++ more)
into_grows f acc [] = ([], append_nil acc)
  where
    append_nil : (xs : List ℕ) → xs ≡ xs ++ []
    append_nil [] = refl
    append_nil (x ∷ xs) = ap (λ (l : List ℕ). x ∷ l) (append_nil xs)
into_grows f acc (i ∷ is) =
    let step = added_grows (has (f i) acc) (f i) acc in
    let rest = into_grows f (added (f i) acc) is in
    (step.0 ++ rest.0, rest.1 ∙ ap (λ (l : List ℕ). l ++ rest.0) step.1 ∙ append_assoc acc step.0 rest.0)
  where
    added_grows : (b : Bool) (x : ℕ) (acc : List ℕ) → (more : List ℕ) × (unless_ended b x (λ d. d) acc ≡ acc ++ more)
    added_grows true x acc = ([], append_nil acc)
      where
        append_nil : (xs : List ℕ) → xs ≡ xs ++ []
        append_nil [] = refl
        append_nil (x ∷ xs) = ap (λ (l : List ℕ). x ∷ l) (append_nil xs)
    added_grows false x acc = (x ∷ [], refl)

get_middle : (xs : List ℕ) (y : ℕ) (zs : List ℕ) → slice_get ((xs ++ y ∷ []) ++ zs) (length xs) ≡ Some y
get_middle [] y zs = refl
get_middle (x ∷ xs) y zs = get_middle xs y zs

-- a new image of a list of images in their order is the next number
pub next_is : (f : ℕ → ℕ) (a m x : ℕ) (is : List ℕ) → a ≤ f x → into f (range_with_len 0 a) (x ∷ is) ≡ range_with_len 0 m → f x ≡ a
next_is f a m x is l e =
    let new : has (f x) (range_with_len 0 a) ≡ false = has_range_past 0 a (f x) (omega arith) in
    let first : added (f x) (range_with_len 0 a) ≡ range_with_len 0 a ++ f x ∷ [] = rw new refl in
    let rest = into_grows f (range_with_len 0 a ++ f x ∷ []) is in
    let whole : range_with_len 0 m ≡ (range_with_len 0 a ++ f x ∷ []) ++ rest.0 = sym e ∙ ap (λ (l : List ℕ). into f l is) first ∙ rest.1 in
    let there : slice_get (range_with_len 0 m) a ≡ Some (f x) =
    ap (λ (l : List ℕ). slice_get l a) whole ∙ ap (slice_get ((range_with_len 0 a ++ f x ∷ []) ++ rest.0)) (sym (range_length 0 a)) ∙ get_middle (range_with_len 0 a) (f x) rest.0 in
    let inside : a < m = (let i = within_of (range_with_len 0 m) a (f x) there in let c = range_length 0 m in omega arith) in
    let value : slice_get (range_with_len 0 m) a ≡ Some (0 + a) = range_get 0 m a inside in
    let same : f x ≡ 0 + a = cc in
    omega arith

-- the step where the image is new, and where it is there
pub next_into : (f : ℕ → ℕ) (a x : ℕ) (is : List ℕ) → f x ≡ a → into f (range_with_len 0 a) (x ∷ is) ≡ into f (range_with_len 0 (suc a)) is
next_into f a x is e =
    let new : has (f x) (range_with_len 0 a) ≡ false = has_range_past 0 a (f x) (omega arith) in
    let first : added (f x) (range_with_len 0 a) ≡ range_with_len 0 a ++ f x ∷ [] = rw new refl in
    let place : f x ≡ 0 + a = omega arith in
    ap (λ (l : List ℕ). into f l is) (first ∙ ap (λ (y : ℕ). range_with_len 0 a ++ y ∷ []) place ∙ sym (range_last 0 a))

pub old_into : (f : ℕ → ℕ) (a x : ℕ) (is : List ℕ) → f x < a → into f (range_with_len 0 a) (x ∷ is) ≡ into f (range_with_len 0 a) is
old_into f a x is l =
    let there : has (f x) (range_with_len 0 a) ≡ true = has_range 0 a (f x) (omega arith) (omega arith) in
    let first : added (f x) (range_with_len 0 a) ≡ range_with_len 0 a = rw there refl in
    ap (λ (l : List ℕ). into f l is) first

record Agree (n : ℕ) (f h : ℕ → ℕ) : Type 0 where
  forth : (i j : ℕ) → i < n → j < n → f i ≡ f j → h i ≡ h j
  back : (i j : ℕ) → i < n → j < n → h i ≡ h j → f i ≡ f j

record Covered (n a : ℕ) (f h : ℕ → ℕ) : Type 0 where
  each : (j : ℕ) → j < a → (k : ℕ) × (k < n) × (f k ≡ j) × (h k ≡ j)

cover_by : (n a x : ℕ) (f h : ℕ → ℕ) → Covered n a f h → x < n → f x ≡ a → h x ≡ a → (j : ℕ) → j < suc a → Split j a → (k : ℕ) × (k < n) × (f k ≡ j) × (h k ≡ j)
cover_by n a x f h c l e g j p (Less q) = c.each j q
cover_by n a x f h c l e g j p (More q) = (x, l, omega arith, omega arith)

cover_more : (n a x : ℕ) (f h : ℕ → ℕ) → Covered n a f h → x < n → f x ≡ a → h x ≡ a → Covered n (suc a) f h
cover_more n a x f h c l e g = record { each = λ j p. cover_by n a x f h c l e g j p (split j a) }

-- what is left agrees, however far the images have come
abbrev Rest : ℕ → (ℕ → ℕ) → (ℕ → ℕ) → List ℕ → ℕ → ℕ → Type 0
Rest n f h is m l = (a : ℕ) → Covered n a f h → into f (range_with_len 0 a) is ≡ range_with_len 0 m → into h (range_with_len 0 a) is ≡ range_with_len 0 l → AllOf (λ i. f i ≡ h i) is

agree_new : (n : ℕ) (f h : ℕ → ℕ) (x : ℕ) (is : List ℕ) (a m l : ℕ) → Agree n f h → x < n → Covered n a f h → into f (range_with_len 0 a) (x ∷ is) ≡ range_with_len 0 m →
    into h (range_with_len 0 a) (x ∷ is) ≡ range_with_len 0 l → Rest n f h is m l → a ≤ f x → Split (h x) a → AllOf (λ i. f i ≡ h i) (x ∷ is)
agree_new n f h x is a m l agree p c e g rest q (Less r) =
    let k = c.each (h x) r in
    let same : f k.0 ≡ f x = agree.back k.0 x k.1 p k.3 in
    let low = k.2 in
    absurd (omega arith)
agree_new n f h x is a m l agree p c e g rest q (More r) =
    let left : f x ≡ a = next_is f a m x is q e in
    let right : h x ≡ a = next_is h a l x is r g in
    (omega arith, rest (suc a) (cover_more n a x f h c p left right) (sym (next_into f a x is left) ∙ e) (sym (next_into h a x is right) ∙ g))

agree_step : (n : ℕ) (f h : ℕ → ℕ) (x : ℕ) (is : List ℕ) (a m l : ℕ) → Agree n f h → x < n → Covered n a f h → into f (range_with_len 0 a) (x ∷ is) ≡ range_with_len 0 m →
    into h (range_with_len 0 a) (x ∷ is) ≡ range_with_len 0 l → Rest n f h is m l → Split (f x) a → AllOf (λ i. f i ≡ h i) (x ∷ is)
agree_step n f h x is a m l agree p c e g rest (Less q) =
    let k = c.each (f x) q in
    let same : h k.0 ≡ h x = agree.forth k.0 x k.1 p k.2 in
    let high = k.3 in
    let both : f x ≡ h x = omega arith in
    (both, rest a c (sym (old_into f a x is q) ∙ e) (sym (old_into h a x is (omega arith)) ∙ g))
agree_step n f h x is a m l agree p c e g rest (More q) = agree_new n f h x is a m l agree p c e g rest q (split (h x) a)

agree_from : (n : ℕ) (f h : ℕ → ℕ) (is : List ℕ) (m l : ℕ) → Agree n f h → AllOf (λ i. i < n) is → Rest n f h is m l
agree_from n f h [] m l agree p a c e g = tt
agree_from n f h (x ∷ is) m l agree p a c e g = agree_step n f h x is a m l agree p.0 c e g (agree_from n f h is m l agree p.1) (split (f x) a)

all_of_range : (low k n : ℕ) → low + k ≤ n → AllOf (λ i. i < n) (range_with_len low k)
all_of_range low zero n h = tt
all_of_range low (suc k) n h = (omega arith, all_of_range (low + 1) k n (omega arith))

pub all_of_at : (P : ℕ → Type 0) (is : List ℕ) (k i : ℕ) → AllOf P is → slice_get is k ≡ Some i → P i
all_of_at P [] k i h e = absurd (cc)
all_of_at P (x ∷ is) zero i h e = let same : x ≡ i = cc in subst P same h.0
all_of_at P (x ∷ is) (suc k) i h e = all_of_at P is k i h.1 e

-- a list merged into two shared lists in their order: the places are the same
pub same_places : (ns ms ls : List Node) (ts us vs : Typing) (f h : ℕ → ℕ) → IsPlaced ns → IsPlaced ms → IsPlaced ls → 0 < length ns → IsOrdered ns →
    IsMerged ns ts ms us f → IsMerged ns ts ls vs h → IsShared ms us → IsShared ls vs → IsOrdered ms → IsOrdered ls → (i : ℕ) → i < length ns → f i ≡ h i
same_places ns ms ls ts us vs f h placed p q full ordered first second one two o r i l =
    let n = length ns in
    let agree : Agree n f h = record {
      forth = same_way ns ms ls ts us vs f h (record { placed = placed; first = first; second = second; shared = two });
      back = same_way ns ls ms ts vs us h f (record { placed = placed; first = second; second = first; shared = one });
    } in
    let all = agree_from n f h (range_with_len 0 n) (length ms) (length ls) agree (all_of_range 0 n n (omega arith)) 0 (record { each = λ j k. absurd (omega arith) })
    (merged_in_order ns ms ts us f placed p full first ordered o) (merged_in_order ns ls ts vs h placed q full second ordered r) in
    let there : slice_get (range_with_len 0 n) i ≡ Some (0 + i) = range_get 0 n i l in
    let same : 0 + i ≡ i = omega arith in
    all_of_at (λ j. f j ≡ h j) (range_with_len 0 n) i i all (there ∙ ap Some same)

-- lists with the same elements are the same
pub same_elements : {A : Type 0} (xs ys : List A) → length xs ≡ length ys → ((i : ℕ) (x : A) → slice_get xs i ≡ Some x → slice_get ys i ≡ Some x) → xs ≡ ys
same_elements [] [] l on = refl
same_elements [] (y ∷ ys) l on = absurd (omega arith)
same_elements (x ∷ xs) [] l on = absurd (omega arith)
same_elements (x ∷ xs) (y ∷ ys) l on =
    let first : y ≡ x = let e = on 0 x refl in cc in
    let rest : xs ≡ ys = same_elements xs ys (omega arith) (λ i z h. on (suc i) z h) in
    cc

images_same : (f h : ℕ → ℕ) (acc is : List ℕ) → AllOf (λ i. f i ≡ h i) is → into f acc is ≡ into h acc is
images_same f h acc [] all = refl
images_same f h acc (i ∷ is) all =
    ap (λ (x : ℕ). into f (added x acc) is) all.0 ∙ images_same f h (added (h i) acc) is all.1

map_same : (f h : ℕ → ℕ) (n : ℕ) (is : List ℕ) → AreUnder n is → ((i : ℕ) → i < n → f i ≡ h i) → map f is ≡ map h is
map_same f h n [] u on = refl
map_same f h n (i ∷ is) u on =
    let first : f i ≡ h i = on i u.0 in
    let rest : map f is ≡ map h is = map_same f h n is u.1 on in
    cc

pub renamed_same : (f h : ℕ → ℕ) (n : ℕ) (m : Node) → AreUnder n (children m) → ((i : ℕ) → i < n → f i ≡ h i) → renamed f m ≡ renamed h m
renamed_same f h n m u on =
    sym (refilled_is f f m) ∙ ap (refilled (renamed f m)) (map_same f h n (children m) u on) ∙ refilled_is f h m

all_by : (P : ℕ → Type 0) (n low k : ℕ) → low + k ≤ n → ((i : ℕ) → i < n → P i) → AllOf P (range_with_len low k)
all_by P n low zero h on = tt
all_by P n low (suc k) h on = (on low (omega arith), all_by P n (low + 1) k (omega arith) on)

-- and the lists and their typings
pub one_merged : (ns ms ls : List Node) (ts us vs : Typing) (f h : ℕ → ℕ) → IsPlaced ns → IsPlaced ms → IsPlaced ls → 0 < length ns → IsOrdered ns →
    IsMerged ns ts ms us f → IsMerged ns ts ls vs h → IsShared ms us → IsShared ls vs → IsOrdered ms → IsOrdered ls → length us ≡ length ms → length vs ≡ length ls →
    (ms ≡ ls) × (us ≡ vs)
one_merged ns ms ls ts us vs f h placed p q full ordered first second one two o r long_us long_vs =
    let n = length ns in
    let same = same_places ns ms ls ts us vs f h placed p q full ordered first second one two o r in
    let ranges : range_with_len 0 (length ms) ≡ range_with_len 0 (length ls) =
    sym (merged_in_order ns ms ts us f placed p full first ordered o)
    ∙ images_same f h [] (range_with_len 0 n) (all_by (λ i. f i ≡ h i) n 0 n (omega arith) same)
    ∙ merged_in_order ns ls ts vs h placed q full second ordered r in
    let lengths : length ms ≡ length ls = sym (range_length 0 (length ms)) ∙ ap (λ (l : List ℕ). length l) ranges ∙ range_length 0 (length ls) in
    let onto = merged_onto ns ms ts us f placed p full first o in (
      same_elements ms ls lengths
          (λ j x e.
          let from = onto j (within_of ms j x e) in
          let m = there_at ns from.0 from.1 in
          let u = Rattle.simplicity.proofs.Unfold.children_under ns from.0 m.0 (Rattle.simplicity.proofs.Unfold.follows_at ns from.0 m.0 placed m.1) in
          let is : renamed f m.0 ≡ x = let a = first.nodes from.0 m.0 m.1 in let b = ap (slice_get ms) from.2 in cc in
          let place : j ≡ h from.0 = sym from.2 ∙ same from.0 from.1 in
          ap (slice_get ls) place ∙ second.nodes from.0 m.0 m.1
          ∙ ap Some (sym (renamed_same f h from.0 m.0 u (λ i l. same i (let k = from.1 in omega arith))) ∙ is)),
      same_elements us vs (long_us ∙ lengths ∙ sym long_vs)
          (λ j x e.
          let from = onto j (let i = within_of us j x e in omega arith) in
          let place : j ≡ h from.0 = sym from.2 ∙ same from.0 from.1 in
          ap (slice_get vs) place ∙ second.arrows from.0 from.1 ∙ sym (first.arrows from.0 from.1) ∙ ap (slice_get us) from.2 ∙ e),
    )
