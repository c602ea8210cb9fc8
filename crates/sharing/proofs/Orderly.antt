-- Lists of indices in an order of ends: each once, after its children.
use Rattle.std.proofs.Common.{◌≡◌, refl, ap, sym, subst, ◌∙◌, ℕ, zero, suc, ◌+◌, ◌-◌, ◌<◌, ◌≤◌, Bool, true, false, ◌||◌, List, [], ◌∷◌, ◌++◌, length, take, Some, arith, eqb-true, eq-eqb}
use Rattle.std.specs.Prelude.{slice_get, nat_eq}
use Rattle.std.specs.List.{range_with_len, position_or_len}
use Rattle.simplicity.specs.Nodes.{Node, AreUnder}
use Rattle.simplicity.specs.Order.{has, over, unless_ended, children_at, post_order}
use Rattle.sharing.specs.Images.{added, into, images}
use Rattle.sharing.proofs.Closed.{ends, IsDown, AllHad}
use Rattle.sharing.proofs.Walks.{ends_step, over_ends_under, over_gets, deep_enough, or_case}

-- each element stands once, in the list of nodes, after its children
pub record Orderly (ns : List Node) (done : List ℕ) : Type 0 where
  pub within : (k i : ℕ) → slice_get done k ≡ Some i → i < length ns
  pub after : (k i : ℕ) → slice_get done k ≡ Some i → AllHad (take k done) (children_at ns i)
  pub once : (k i : ℕ) → slice_get done k ≡ Some i → has i (take k done) ≡ false

pub last_case : {A C : Type 0} (xs : List A) (y x : A) (k : ℕ) → slice_get (xs ++ y ∷ []) k ≡ Some x →
    (slice_get xs k ≡ Some x → take k (xs ++ y ∷ []) ≡ take k xs → C) → (take k (xs ++ y ∷ []) ≡ xs → y ≡ x → k ≡ length xs → C) → C
last_case [] y x zero h front last = last refl (cc) refl
last_case [] y x (suc k) h front last = absurd (cc)
last_case (z ∷ xs) y x zero h front last = front h refl
last_case (z ∷ xs) y x (suc k) h front last =
    last_case xs y x k h (λ g e. front g (ap (λ (l : List _). z ∷ l) e)) (λ e g l. last (ap (λ (l : List _). z ∷ l) e) g (ap suc l))

orderly_none : (ns : List Node) → Orderly ns []
orderly_none ns = record { within = λ k i h. absurd (cc); after = λ k i h. absurd (cc); once = λ k i h. absurd (cc) }

orderly_more : (ns : List Node) (xs : List ℕ) (j : ℕ) → Orderly ns xs → j < length ns → AllHad xs (children_at ns j) → has j xs ≡ false → Orderly ns (xs ++ j ∷ [])
orderly_more ns xs j old l all new = record {
  within = λ k i h. last_case xs j i k h (λ g e. old.within k i g) (λ e g m. subst (λ (x : ℕ). x < length ns) g l);
  after = λ k i h.
      last_case xs j i k h (λ g e. subst (λ (d : List ℕ). AllHad d (children_at ns i)) (sym e) (old.after k i g))
      (λ e g m. subst (λ (d : List ℕ). AllHad d (children_at ns i)) (sym e) (subst (λ (x : ℕ). AllHad xs (children_at ns x)) g all));
  once = λ k i h.
      last_case xs j i k h (λ g e. ap (has i) e ∙ old.once k i g) (λ e g m. ap (has i) e ∙ subst (λ (x : ℕ). has x xs ≡ false) g new);
}

unless_orderly : (ns : List Node) (b : Bool) (i : ℕ) (f : List ℕ → List ℕ) (done : List ℕ) → has i done ≡ b → Orderly ns done → Orderly ns (f done) → i < length ns →
    AllHad (f done) (children_at ns i) → (has i done ≡ false → has i (f done) ≡ false) → Orderly ns (unless_ended b i f done)
unless_orderly ns true i f done e o p l all new = o
unless_orderly ns false i f done e o p l all new = orderly_more ns (f done) i p l all (new e)

over_orderly : (ns : List Node) (n : ℕ) (is done : List ℕ) → AreUnder n is → ((i : ℕ) (x : List ℕ) → i < n → Orderly ns x → Orderly ns (ends ns i x)) → Orderly ns done →
    Orderly ns (over (ends ns) is done)
over_orderly ns n [] done u keep o = o
over_orderly ns n (i ∷ is) done u keep o = over_orderly ns n is (ends ns i done) u.1 keep (keep i done u.0 o)

orderly_within : (ns : List Node) → IsDown ns → (d i : ℕ) (done : List ℕ) → i < d → i < length ns → Orderly ns done → Orderly ns (ends ns i done)
orderly_within ns down zero i done l m o = absurd (omega arith)
orderly_within ns down (suc d) i done l m o =
    let inner = over_orderly ns i (children_at ns i) done (down i) (λ k x h g. orderly_within ns down d k x (omega arith) (omega arith) g) o in
    subst (Orderly ns) (sym (ends_step ns down i done))
    (unless_orderly ns (has i done) i (over (ends ns) (children_at ns i)) done refl o inner m (over_gets ns (children_at ns i) done)
    (λ e. over_ends_under ns down i i (children_at ns i) done (down i) (omega arith) ∙ e))

pub post_order_ends : (ns : List Node) → IsDown ns → 0 < length ns → post_order ns ≡ ends ns (length ns - 1) []
post_order_ends ns down h = deep_enough ns down (length ns) (suc (length ns - 1)) (length ns - 1) [] (omega arith) (omega arith)

pub post_orderly : (ns : List Node) → IsDown ns → 0 < length ns → Orderly ns (post_order ns)
post_orderly ns down h =
    subst (Orderly ns) (sym (post_order_ends ns down h)) (orderly_within ns down (suc (length ns - 1)) (length ns - 1) [] (omega arith) (omega arith) (orderly_none ns))

-- the root is the last
pub post_order_last : (ns : List Node) → IsDown ns → 0 < length ns → (mid : List ℕ) × (post_order ns ≡ mid ++ (length ns - 1) ∷ [])
post_order_last ns down h =
    (over (ends ns) (children_at ns (length ns - 1)) [], post_order_ends ns down h ∙ ends_step ns down (length ns - 1) [])

-- positions
abbrev pub position : ℕ → List ℕ → ℕ
position i done = position_or_len (nat_eq i) done

false_or : (a b : Bool) → a || b ≡ false → (a ≡ false) × (b ≡ false)
false_or true b e = absurd (cc)
false_or false b e = (refl, e)

pub position_is : (done : List ℕ) (k i : ℕ) → slice_get done k ≡ Some i → has i (take k done) ≡ false → position i done ≡ k
position_is [] k i h new = absurd (cc)
position_is (x ∷ xs) zero i h new =
    let same : i ≡ x = cc in
    let passed : nat_eq i x ≡ true = eq-eqb i x same in
    rw passed refl
position_is (x ∷ xs) (suc k) i h new =
    let both = false_or (nat_eq i x) (has i (take k xs)) new in
    let failed : nat_eq i x ≡ false = both.0 in
    let rest : position i xs ≡ k = position_is xs k i h both.1 in
    rw failed (omega (arith, rest))

-- where an element stands first
pub record Found (i : ℕ) (done : List ℕ) : Type 0 where
  pub place : ℕ
  pub there : slice_get done place ≡ Some i
  pub first : has i (take place done) ≡ false

found_by : (b : Bool) (i x : ℕ) (xs : List ℕ) → nat_eq i x ≡ b → (b ≡ false → Found i xs) → Found i (x ∷ xs)
found_by true i x xs e rest = let same : x ≡ i = sym (eqb-true i x e) in record { place = 0; there = ap Some same; first = refl }
found_by false i x xs e rest =
    let later = rest refl in
    record { place = suc later.place; there = later.there; first = rw e later.first }

pub found : (i : ℕ) (done : List ℕ) → has i done ≡ true → Found i done
found i [] h = absurd (cc)
found i (x ∷ xs) h =
    found_by (nat_eq i x) i x xs refl
    (λ e. or_case (nat_eq i x) (has i xs) h (λ g. absurd (cc)) (λ g. found i xs g))

pub position_there : (i : ℕ) (done : List ℕ) → has i done ≡ true → slice_get done (position i done) ≡ Some i
position_there i done h =
    let at = found i done h in
    subst (λ (k : ℕ). slice_get done k ≡ Some i) (sym (position_is done at.place i at.there at.first)) at.there

-- ranges
pub has_range_past : (low n k : ℕ) → low + n ≤ k → has k (range_with_len low n) ≡ false
has_range_past low zero k h = refl
has_range_past low (suc n) k h =
    let no : nat_eq k low ≡ false = differ_at k low (nat_eq k low) refl (λ e. absurd (omega arith)) in
    let rest : has k (range_with_len (low + 1) n) ≡ false = has_range_past (low + 1) n k (omega arith) in
    rw no rest
  where
    differ_at : (k i : ℕ) (b : Bool) → nat_eq k i ≡ b → (k ≡ i → ⊥) → b ≡ false
    differ_at k i false e g = refl
    differ_at k i true e g = absurd (g (eqb-true k i e))

pub range_last : (low n : ℕ) → range_with_len low (suc n) ≡ range_with_len low n ++ (low + n) ∷ []
range_last low zero = let same : low ≡ low + 0 = omega arith in ap (λ (x : ℕ). x ∷ []) same
range_last low (suc n) =
    let same : (low + 1) + n ≡ low + suc n = omega arith in
    let rest = range_last (low + 1) n in
    ap (λ (l : List ℕ). low ∷ l) (rest ∙ ap (λ (x : ℕ). range_with_len (low + 1) n ++ x ∷ []) same)

pub range_get : (low n i : ℕ) → i < n → slice_get (range_with_len low n) i ≡ Some (low + i)
range_get low zero i h = absurd (omega arith)
range_get low (suc n) zero h = let same : low ≡ low + 0 = omega arith in ap Some same
range_get low (suc n) (suc i) h =
    let same : (low + 1) + i ≡ low + suc i = omega arith in
    range_get (low + 1) n i (omega arith) ∙ ap Some same

pub range_length : (low n : ℕ) → length (range_with_len low n) ≡ n
range_length low zero = refl
range_length low (suc n) = ap suc (range_length (low + 1) n)

added_new : (j : ℕ) (acc : List ℕ) → has j acc ≡ false → added j acc ≡ acc ++ j ∷ []
added_new j acc h = rw h refl

into_range : (f : ℕ → ℕ) (a : ℕ) (is : List ℕ) → ((k i : ℕ) → slice_get is k ≡ Some i → f i ≡ a + k) → into f (range_with_len 0 a) is ≡ range_with_len 0 (a + length is)
into_range f a [] at = let same : a ≡ a + 0 = omega arith in ap (λ (x : ℕ). range_with_len 0 x) same
into_range f a (i ∷ is) at =
    let here : f i ≡ a = at 0 i refl ∙ (let e : a + 0 ≡ a = omega arith in e) in
    let new : has a (range_with_len 0 a) ≡ false = has_range_past 0 a a (omega arith) in
    let zero_more : 0 + a ≡ a = omega arith in
    let last : range_with_len 0 a ++ a ∷ [] ≡ range_with_len 0 (suc a) = sym (range_last 0 a ∙ ap (λ (x : ℕ). range_with_len 0 a ++ x ∷ []) zero_more) in
    let first : added (f i) (range_with_len 0 a) ≡ range_with_len 0 (suc a) =
    ap (λ (x : ℕ). added x (range_with_len 0 a)) here ∙ added_new a (range_with_len 0 a) new ∙ last in
    let count : suc a + length is ≡ a + suc (length is) = omega arith in
    ap (λ (l : List ℕ). into f l is) first
    ∙ into_range f (suc a) is (λ k j h. at (suc k) j h ∙ (let e : a + suc k ≡ suc a + k = omega arith in e))
    ∙ ap (λ (x : ℕ). range_with_len 0 x) count

-- where each element goes to its own place, the images are the places
pub images_range : (f : ℕ → ℕ) (is : List ℕ) → ((k i : ℕ) → slice_get is k ≡ Some i → f i ≡ k) → images f is ≡ range_with_len 0 (length is)
images_range f is at =
    let zero_more : 0 + length is ≡ length is = omega arith in
    into_range f 0 is (λ k i h. at k i h ∙ (let e : k ≡ 0 + k = omega arith in e)) ∙ ap (λ (x : ℕ). range_with_len 0 x) zero_more
