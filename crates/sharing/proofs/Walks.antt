-- Walks: with enough depth they don't depend on it, and a map of lists that keeps children takes a walk to a walk.
use Rattle.std.proofs.Common.{◌≡◌, refl, ap, sym, subst, ◌∙◌, ℕ, zero, suc, ◌-◌, ◌<◌, ◌≤◌, Bool, true, false, ◌||◌, List, [], ◌∷◌, ◌++◌, length, map, arith, eqb-true, eq-eqb}
use Rattle.std.specs.Prelude.{nat_eq}
use Rattle.std.proofs.lemmas.List.Folds.{list_any-append}
use Rattle.simplicity.specs.Nodes.{Node, AreUnder}
use Rattle.simplicity.specs.Order.{has, over, unless_ended, children_at, ended, post_order}
use Rattle.sharing.specs.Images.{added, into, images}
use Rattle.sharing.proofs.Closed.{ends, IsDown, AllHad, IsClosed, AllOf}

abbrev Walk : Type 0
Walk = ℕ → List ℕ → List ℕ

over_same : (g h : Walk) (n : ℕ) (is done : List ℕ) → AreUnder n is → ((k : ℕ) (x : List ℕ) → k < n → g k x ≡ h k x) → over g is done ≡ over h is done
over_same g h n [] done u same = refl
over_same g h n (i ∷ is) done u same =
    let first : g i done ≡ h i done = same i done u.0 in
    ap (λ (x : List ℕ). over g is x) first ∙ over_same g h n is (h i done) u.1 same

unless_same : (b : Bool) (i : ℕ) (f g : List ℕ → List ℕ) (done : List ℕ) → f done ≡ g done → unless_ended b i f done ≡ unless_ended b i g done
unless_same true i f g done e = refl
unless_same false i f g done e = ap (λ (x : List ℕ). x ++ i ∷ []) e

pub deep_enough : (ns : List Node) → IsDown ns → (d e i : ℕ) (done : List ℕ) → i < d → i < e → ended ns d i done ≡ ended ns e i done
deep_enough ns down zero e i done h g = absurd (omega arith)
deep_enough ns down (suc d) zero i done h g = absurd (omega arith)
deep_enough ns down (suc d) (suc e) i done h g =
    unless_same (has i done) i (over (ended ns d) (children_at ns i)) (over (ended ns e) (children_at ns i)) done
    (over_same (ended ns d) (ended ns e) i (children_at ns i) done (down i) (λ k x l. deep_enough ns down d e k x (omega arith) (omega arith)))

-- one step of a walk
pub ends_step : (ns : List Node) → IsDown ns → (i : ℕ) (done : List ℕ) → ends ns i done ≡ unless_ended (has i done) i (over (ends ns) (children_at ns i)) done
ends_step ns down i done =
    unless_same (has i done) i (over (ended ns i) (children_at ns i)) (over (ends ns) (children_at ns i)) done
    (over_same (ended ns i) (ends ns) i (children_at ns i) done (down i) (λ k x l. deep_enough ns down i (suc k) k x l (omega arith)))

pub or_left : (a b : Bool) → a ≡ true → a || b ≡ true
or_left true b e = refl
or_left false b e = absurd (cc)

pub or_right : (a b : Bool) → b ≡ true → a || b ≡ true
or_right true b e = refl
or_right false b e = e

or_none : (a b : Bool) → b ≡ false → a || b ≡ a
or_none true b e = refl
or_none false b e = e

pub or_case : {C : Type 0} (a b : Bool) → a || b ≡ true → (a ≡ true → C) → (b ≡ true → C) → C
or_case true b e f g = f refl
or_case false b e f g = g e

pub has_last : (k i : ℕ) (xs : List ℕ) → has k (xs ++ i ∷ []) ≡ (has k xs || (nat_eq k i || false))
has_last k i xs = list_any-append (nat_eq k) xs (i ∷ [])

pub has_self : (i : ℕ) (xs : List ℕ) → has i (xs ++ i ∷ []) ≡ true
has_self i xs =
    let same : nat_eq i i ≡ true = eq-eqb i i refl in
    has_last i i xs ∙ or_right (has i xs) (nat_eq i i || false) (or_left (nat_eq i i) false same)

pub has_front : (k i : ℕ) (xs : List ℕ) → has k xs ≡ true → has k (xs ++ i ∷ []) ≡ true
has_front k i xs h = has_last k i xs ∙ or_left (has k xs) (nat_eq k i || false) h

differ : (k i : ℕ) (b : Bool) → nat_eq k i ≡ b → (k ≡ i → ⊥) → b ≡ false
differ k i false e h = refl
differ k i true e h = absurd (h (eqb-true k i e))

pub has_other : (k i : ℕ) (xs : List ℕ) → (k ≡ i → ⊥) → has k (xs ++ i ∷ []) ≡ has k xs
has_other k i xs h =
    let no : nat_eq k i ≡ false = differ k i (nat_eq k i) refl h in
    let none : (nat_eq k i || false) ≡ false = rw no refl in
    has_last k i xs ∙ or_none (has k xs) (nat_eq k i || false) none

-- what a walk keeps and gets
unless_keeps : (b : Bool) (i k : ℕ) (f : List ℕ → List ℕ) (done : List ℕ) → has k (f done) ≡ true → has k done ≡ true → has k (unless_ended b i f done) ≡ true
unless_keeps true i k f done h g = g
unless_keeps false i k f done h g = has_front k i (f done) h

over_keeps : (g : Walk) (k : ℕ) (is done : List ℕ) → ((i : ℕ) (x : List ℕ) → has k x ≡ true → has k (g i x) ≡ true) → has k done ≡ true → has k (over g is done) ≡ true
over_keeps g k [] done keep h = h
over_keeps g k (i ∷ is) done keep h = over_keeps g k is (g i done) keep (keep i done h)

pub ended_keeps : (ns : List Node) (d i k : ℕ) (done : List ℕ) → has k done ≡ true → has k (ended ns d i done) ≡ true
ended_keeps ns zero i k done h = h
ended_keeps ns (suc d) i k done h =
    unless_keeps (has i done) i k (over (ended ns d) (children_at ns i)) done
    (over_keeps (ended ns d) k (children_at ns i) done (λ j x g. ended_keeps ns d j k x g) h) h

unless_gets : (b : Bool) (i : ℕ) (f : List ℕ → List ℕ) (done : List ℕ) → has i done ≡ b → has i (unless_ended b i f done) ≡ true
unless_gets true i f done h = h
unless_gets false i f done h = has_self i (f done)

pub ends_gets : (ns : List Node) (i : ℕ) (done : List ℕ) → has i (ends ns i done) ≡ true
ends_gets ns i done = unless_gets (has i done) i (over (ended ns i) (children_at ns i)) done refl

-- a walk from below a number adds only numbers below it
unless_under : (b : Bool) (i k : ℕ) (f : List ℕ → List ℕ) (done : List ℕ) → i < k → has k (f done) ≡ has k done → has k (unless_ended b i f done) ≡ has k done
unless_under true i k f done l h = refl
unless_under false i k f done l h = has_other k i (f done) (λ e. absurd (omega arith)) ∙ h

over_under : (g : Walk) (n k : ℕ) (is done : List ℕ) → AreUnder n is → ((i : ℕ) (x : List ℕ) → i < n → has k (g i x) ≡ has k x) → has k (over g is done) ≡ has k done
over_under g n k [] done u keep = refl
over_under g n k (i ∷ is) done u keep = over_under g n k is (g i done) u.1 keep ∙ keep i done u.0

pub ended_under : (ns : List Node) → IsDown ns → (d i k : ℕ) (done : List ℕ) → i < k → has k (ended ns d i done) ≡ has k done
ended_under ns down zero i k done l = refl
ended_under ns down (suc d) i k done l =
    unless_under (has i done) i k (over (ended ns d) (children_at ns i)) done l
    (over_under (ended ns d) i k (children_at ns i) done (down i) (λ j x h. ended_under ns down d j k x (omega arith)))

pub over_ends_under : (ns : List Node) → IsDown ns → (n k : ℕ) (is done : List ℕ) → AreUnder n is → n ≤ k → has k (over (ends ns) is done) ≡ has k done
over_ends_under ns down n k is done u l = over_under (ends ns) n k is done u (λ j x h. ended_under ns down (suc j) j k x (omega arith))

-- what has ended is closed under children
all_had_more : (xs ys : List ℕ) (is : List ℕ) → ((k : ℕ) → has k xs ≡ true → has k ys ≡ true) → AllHad xs is → AllHad ys is
all_had_more xs ys [] more h = tt
all_had_more xs ys (i ∷ is) more h = (more i h.0, all_had_more xs ys is more h.1)

pub over_gets : (ns : List Node) (is done : List ℕ) → AllHad (over (ends ns) is done) is
over_gets ns [] done = tt
over_gets ns (i ∷ is) done =
    (over_keeps (ends ns) i is (ends ns i done) (λ j x g. ended_keeps ns (suc j) j i x g) (ends_gets ns i done), over_gets ns is (ends ns i done))

closed_last : (ns : List Node) (i : ℕ) (xs : List ℕ) → IsClosed ns xs → AllHad xs (children_at ns i) → IsClosed ns (xs ++ i ∷ [])
closed_last ns i xs closed all j h =
    let more = λ (k : ℕ) (g : has k xs ≡ true). has_front k i xs g in
    or_case (has j xs) (nat_eq j i || false) (sym (has_last j i xs) ∙ h)
    (λ g. all_had_more xs (xs ++ i ∷ []) (children_at ns j) more (closed j g))
    (λ g. or_case (nat_eq j i) false g
    (λ e. let same : i ≡ j = sym (eqb-true j i e) in
    all_had_more xs (xs ++ i ∷ []) (children_at ns j) more (subst (λ (x : ℕ). AllHad xs (children_at ns x)) same all))
    (λ e. absurd (cc)))

unless_closed : (ns : List Node) (b : Bool) (i : ℕ) (f : List ℕ → List ℕ) (done : List ℕ) → IsClosed ns done → IsClosed ns (f done) → AllHad (f done) (children_at ns i) →
    IsClosed ns (unless_ended b i f done)
unless_closed ns true i f done c d all = c
unless_closed ns false i f done c d all = closed_last ns i (f done) d all

over_closed : (ns : List Node) (n : ℕ) (is done : List ℕ) → AreUnder n is → ((i : ℕ) (x : List ℕ) → i < n → IsClosed ns x → IsClosed ns (ends ns i x)) → IsClosed ns done →
    IsClosed ns (over (ends ns) is done)
over_closed ns n [] done u keep c = c
over_closed ns n (i ∷ is) done u keep c = over_closed ns n is (ends ns i done) u.1 keep (keep i done u.0 c)

closed_within : (ns : List Node) → IsDown ns → (d i : ℕ) (done : List ℕ) → i < d → IsClosed ns done → IsClosed ns (ends ns i done)
closed_within ns down zero i done l c = absurd (omega arith)
closed_within ns down (suc d) i done l c =
    let inner = over_closed ns i (children_at ns i) done (down i) (λ k x h g. closed_within ns down d k x (omega arith) g) c in
    subst (IsClosed ns) (sym (ends_step ns down i done))
    (unless_closed ns (has i done) i (over (ends ns) (children_at ns i)) done c inner (over_gets ns (children_at ns i) done))

pub ends_closed : (ns : List Node) → IsDown ns → (i : ℕ) (done : List ℕ) → IsClosed ns done → IsClosed ns (ends ns i done)
ends_closed ns down i done c = closed_within ns down (suc i) i done (omega arith) c

-- images
into_last : (f : ℕ → ℕ) (acc xs : List ℕ) (i : ℕ) → into f acc (xs ++ i ∷ []) ≡ added (f i) (into f acc xs)
into_last f acc [] i = refl
into_last f acc (x ∷ xs) i = into_last f (added (f x) acc) xs i

pub images_last : (f : ℕ → ℕ) (xs : List ℕ) (i : ℕ) → images f (xs ++ i ∷ []) ≡ added (f i) (images f xs)
images_last f xs i = into_last f [] xs i

added_keeps : (j k : ℕ) (acc : List ℕ) → has k acc ≡ true → has k (added j acc) ≡ true
added_keeps j k acc h = unless_keeps (has j acc) j k (λ d. d) acc h h

into_keeps : (f : ℕ → ℕ) (k : ℕ) (acc is : List ℕ) → has k acc ≡ true → has k (into f acc is) ≡ true
into_keeps f k acc [] h = h
into_keeps f k acc (i ∷ is) h = into_keeps f k (added (f i) acc) is (added_keeps (f i) k acc h)

into_has : (f : ℕ → ℕ) (i : ℕ) (acc is : List ℕ) → has i is ≡ true → has (f i) (into f acc is) ≡ true
into_has f i acc [] h = absurd (cc)
into_has f i acc (x ∷ xs) h =
    or_case (nat_eq i x) (has i xs) h
    (λ e. let same : f x ≡ f i = ap f (sym (eqb-true i x e)) in
    subst (λ (y : ℕ). has y (into f acc (x ∷ xs)) ≡ true) same
    (into_keeps f (f x) (added (f x) acc) xs (unless_gets (has (f x) acc) (f x) (λ d. d) acc refl)))
    (λ e. into_has f i (added (f x) acc) xs e)

pub images_has : (f : ℕ → ℕ) (i : ℕ) (is : List ℕ) → has i is ≡ true → has (f i) (images f is) ≡ true
images_has f i is h = into_has f i [] is h

-- a map of lists that keeps children, on the nodes that have a property
pub record Carries (P : ℕ → Type 0) (f : ℕ → ℕ) (ns ms : List Node) : Type 0 where
  pub below : IsDown ns
  pub under : IsDown ms
  pub children : (i : ℕ) → P i → children_at ms (f i) ≡ map f (children_at ns i)
  pub inherit : (i : ℕ) → P i → AllOf P (children_at ns i)

-- where a node's image has ended, a walk from it adds no image
added_there : (j : ℕ) (b : Bool) (acc : List ℕ) → b ≡ true → unless_ended b j (λ d. d) acc ≡ acc
added_there j true acc e = refl
added_there j false acc e = absurd (cc)

unless_stays : (f : ℕ → ℕ) (b : Bool) (i : ℕ) (g : List ℕ → List ℕ) (done all : List ℕ) → images f done ≡ all → images f (g done) ≡ all → has (f i) all ≡ true →
    images f (unless_ended b i g done) ≡ all
unless_stays f true i g done all e h there = e
unless_stays f false i g done all e h there =
    images_last f (g done) i ∙ ap (λ (x : List ℕ). added (f i) x) h ∙ added_there (f i) (has (f i) all) all there

over_stays : (P : ℕ → Type 0) (f : ℕ → ℕ) (g : Walk) (n : ℕ) (is done all : List ℕ) → AreUnder n is → AllOf P is → AllHad all (map f is) →
    ((i : ℕ) (x : List ℕ) → i < n → P i → has (f i) all ≡ true → images f x ≡ all → images f (g i x) ≡ all) → images f done ≡ all → images f (over g is done) ≡ all
over_stays P f g n [] done all u p h keep e = e
over_stays P f g n (i ∷ is) done all u p h keep e =
    over_stays P f g n is (g i done) all u.1 p.1 h.1 keep (keep i done u.0 p.0 h.0 e)

stays : (P : ℕ → Type 0) (f : ℕ → ℕ) (ns ms : List Node) → Carries P f ns ms → (all : List ℕ) → IsClosed ms all → (d i : ℕ) (done : List ℕ) → i < d → P i →
    has (f i) all ≡ true → images f done ≡ all → images f (ends ns i done) ≡ all
stays P f ns ms to all closed zero i done l p h e = absurd (omega arith)
stays P f ns ms to all closed (suc d) i done l p h e =
    let had : AllHad all (map f (children_at ns i)) = subst (AllHad all) (to.children i p) (closed (f i) h) in
    let inner = over_stays P f (ends ns) i (children_at ns i) done all (to.below i) (to.inherit i p) had
    (λ k x m q g same. stays P f ns ms to all closed d k x (omega arith) q g same) e in
    subst (λ (x : List ℕ). images f x ≡ all) (sym (ends_step ns to.below i done))
    (unless_stays f (has i done) i (over (ends ns) (children_at ns i)) done all e inner h)

over_carried : (P : ℕ → Type 0) (f : ℕ → ℕ) (ns ms : List Node) (n : ℕ) (is done : List ℕ) → IsDown ms → AreUnder n is → AllOf P is →
    ((i : ℕ) (x : List ℕ) → i < n → P i → IsClosed ms (images f x) → ends ms (f i) (images f x) ≡ images f (ends ns i x)) → IsClosed ms (images f done) →
    over (ends ms) (map f is) (images f done) ≡ images f (over (ends ns) is done)
over_carried P f ns ms n [] done down u p on c = refl
over_carried P f ns ms n (i ∷ is) done down u p on c =
    let first = on i done u.0 p.0 c in
    ap (λ (x : List ℕ). over (ends ms) (map f is) x) first
    ∙ over_carried P f ns ms n is (ends ns i done) down u.1 p.1 on (subst (IsClosed ms) first (ends_closed ms down (f i) (images f done) c))

-- the step, by what has ended
carried_by : (f : ℕ → ℕ) (b c : Bool) (i : ℕ) (g h : List ℕ → List ℕ) (done : List ℕ) → has i done ≡ b → has (f i) (images f done) ≡ c →
    (b ≡ true → c ≡ true) → (c ≡ true → images f (unless_ended b i h done) ≡ images f done) → g (images f done) ≡ images f (h done) →
    (c ≡ false → has (f i) (g (images f done)) ≡ false) → unless_ended c (f i) g (images f done) ≡ images f (unless_ended b i h done)
carried_by f b true i g h done e k on stay inner none = sym (stay refl)
carried_by f true false i g h done e k on stay inner none = let no : false ≡ true = on refl in absurd (cc)
carried_by f false false i g h done e k on stay inner none =
    let absent : has (f i) (images f (h done)) ≡ false = ap (λ (x : List ℕ). has (f i) x) (sym inner) ∙ none refl in
    let last : added (f i) (images f (h done)) ≡ images f (h done) ++ f i ∷ [] = rw absent refl in
    ap (λ (x : List ℕ). x ++ f i ∷ []) inner ∙ sym last ∙ sym (images_last f (h done) i)

carried_within : (P : ℕ → Type 0) (f : ℕ → ℕ) (ns ms : List Node) → Carries P f ns ms → (d i : ℕ) (done : List ℕ) → i < d → P i → IsClosed ms (images f done) →
    ends ms (f i) (images f done) ≡ images f (ends ns i done)
carried_within P f ns ms to zero i done l p c = absurd (omega arith)
carried_within P f ns ms to (suc d) i done l p c =
    let inner0 = over_carried P f ns ms i (children_at ns i) done to.under (to.below i) (to.inherit i p)
    (λ k x m q g. carried_within P f ns ms to d k x (omega arith) q g) c in
    let inner : over (ends ms) (children_at ms (f i)) (images f done) ≡ images f (over (ends ns) (children_at ns i) done) =
    ap (λ (is : List ℕ). over (ends ms) is (images f done)) (to.children i p) ∙ inner0 in
    ends_step ms to.under (f i) (images f done)
    ∙ carried_by f (has i done) (has (f i) (images f done)) i (over (ends ms) (children_at ms (f i))) (over (ends ns) (children_at ns i)) done refl refl
    (λ e. images_has f i done e)
    (λ e. ap (λ (x : List ℕ). images f x) (sym (ends_step ns to.below i done)) ∙ stays P f ns ms to (images f done) c (suc d) i done l p e refl)
    inner
    (λ e. over_ends_under ms to.under (f i) (f i) (children_at ms (f i)) (images f done) (to.under (f i)) (omega arith) ∙ e)
    ∙ ap (λ (x : List ℕ). images f x) (sym (ends_step ns to.below i done))

-- the walk from a node's image is the image of the walk
pub carried : (P : ℕ → Type 0) (f : ℕ → ℕ) (ns ms : List Node) → Carries P f ns ms → (i : ℕ) (done : List ℕ) → P i → IsClosed ms (images f done) →
    ends ms (f i) (images f done) ≡ images f (ends ns i done)
carried P f ns ms to i done p c = carried_within P f ns ms to (suc i) i done (omega arith) p c

none_closed : (ns : List Node) → IsClosed ns []
none_closed ns j h = absurd (cc)

-- and the post-order of the images is the image of the post-order
pub post_order_carried : (P : ℕ → Type 0) (f : ℕ → ℕ) (ns ms : List Node) → Carries P f ns ms → P (length ns - 1) → 0 < length ns → 0 < length ms →
    f (length ns - 1) ≡ length ms - 1 → post_order ms ≡ images f (post_order ns)
post_order_carried P f ns ms to p h g root =
    deep_enough ms to.under (length ms) (suc (length ms - 1)) (length ms - 1) [] (omega arith) (omega arith)
    ∙ ap (λ (x : ℕ). ends ms x []) (sym root)
    ∙ carried P f ns ms to (length ns - 1) [] p (none_closed ms)
    ∙ ap (λ (x : List ℕ). images f x) (deep_enough ns to.below (suc (length ns - 1)) (length ns) (length ns - 1) [] (omega arith) (omega arith))
