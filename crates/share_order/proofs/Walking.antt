-- Steps of a walk: what ends after them, how many are left, and the marks.
use Rattle.std.proofs.Common.{◌≡◌, refl, ap, sym, subst, ◌∙◌, ℕ, zero, suc, ◌+◌, ◌-◌, ◌<◌, ◌≤◌, Bool, true, false, List, [], ◌∷◌, ◌++◌, length, get_or, set, Some, arith, append_assoc, eqb-true, eq-eqb}
use Rattle.std.specs.Prelude.{slice_get, nat_eq, replicate}
use Rattle.std.proofs.lemmas.List.{get_or-set_same, get_or-set_other, get_or-replicate, length-replicate, length-set}
use Rattle.simplicity.specs.Nodes as node
use Rattle.simplicity.specs.Nodes.{Node, AreUnder, children, IsPlaced}
use Rattle.simplicity.specs.Order.{has, over, unless_ended, children_at, post_order}
use Rattle.sharing.proofs.Closed.{ends}
use Rattle.sharing.proofs.Walks.{ends_step, has_self, has_other}
use Rattle.sharing.proofs.Orderly.{post_order_ends}
use Rattle.sharing.proofs.Gathering.{down_of, children_are}
use Rattle.simplicity.proofs.Unfold.{follows_at, children_under}
use Rattle.share_order.specs.declared.walk.Step.{Step}
use Rattle.share_order.specs.declared.walk.Step.TheVariants as step
use Rattle.share_order.specs.Steps.{taken, after, entries, cost, load, place_of, AreWithin, Marks}

pub after_last : (ns : List Node) (xs : List Step) (s : Step) (done : List ℕ) → after ns (xs ++ s ∷ []) done ≡ after ns xs (taken ns s done)
after_last ns [] s done = refl
after_last ns (x ∷ xs) s done = ap (taken ns x) (after_last ns xs s done)

append_nil : (xs : List Step) → xs ++ [] ≡ xs
append_nil [] = refl
append_nil (x ∷ xs) = ap (λ (l : List Step). x ∷ l) (append_nil xs)

pub after_entries : (ns : List Node) (xs : List Step) (is done : List ℕ) → after ns (xs ++ entries is) done ≡ after ns xs (over (ends ns) is done)
after_entries ns xs [] done = ap (λ (l : List Step). after ns l done) (append_nil xs)
after_entries ns xs (i ∷ is) done =
    ap (λ (l : List Step). after ns l done) (sym (append_assoc xs (entries is) (step.Enter i ∷ [])))
    ∙ after_last ns (xs ++ entries is) (step.Enter i) done ∙ after_entries ns xs is (ends ns i done)

unless_new : (b : Bool) (i : ℕ) (f : List ℕ → List ℕ) (done : List ℕ) → b ≡ false → unless_ended b i f done ≡ f done ++ i ∷ []
unless_new true i f done e = absurd (cc)
unless_new false i f done e = refl

unless_old : (b : Bool) (i : ℕ) (f : List ℕ → List ℕ) (done : List ℕ) → b ≡ true → unless_ended b i f done ≡ done
unless_old true i f done e = refl
unless_old false i f done e = absurd (cc)

-- entering a node that has not ended
pub entered : (ns : List Node) (xs steps : List Step) (i : ℕ) (n : Node) (done : List ℕ) → IsPlaced ns → slice_get ns i ≡ Some n → has i done ≡ false →
    steps ≡ (xs ++ step.Leave i ∷ []) ++ entries (children n) → after ns steps done ≡ after ns xs (ends ns i done)
entered ns xs steps i n done placed is new e =
    let step_is : ends ns i done ≡ over (ends ns) (children_at ns i) done ++ i ∷ [] =
    ends_step ns (down_of ns placed) i done ∙ unless_new (has i done) i (over (ends ns) (children_at ns i)) done new in
    ap (λ (l : List Step). after ns l done) e ∙ after_entries ns (xs ++ step.Leave i ∷ []) (children n) done
    ∙ after_last ns xs (step.Leave i) (over (ends ns) (children n) done)
    ∙ ap (λ (cs : List ℕ). after ns xs (over (ends ns) cs done ++ i ∷ [])) (sym (children_are ns i n is)) ∙ ap (after ns xs) (sym step_is)

pub skipped : (ns : List Node) (xs : List Step) (i : ℕ) (done : List ℕ) → IsPlaced ns → has i done ≡ true → after ns xs done ≡ after ns xs (ends ns i done)
skipped ns xs i done placed old =
    ap (after ns xs) (sym (ends_step ns (down_of ns placed) i done ∙ unless_old (has i done) i (over (ends ns) (children_at ns i)) done old))

-- what is left falls
pub load_append : (xs ys : List Step) → load (xs ++ ys) ≡ load xs + load ys
load_append [] ys = omega arith
load_append (x ∷ xs) ys = let rest = load_append xs ys in omega arith

pub cost_more : (i k : ℕ) → i ≤ k → cost i ≤ cost k
cost_more zero zero h = omega arith
cost_more zero (suc k) h = let rest = cost_more zero k (omega arith) in omega arith
cost_more (suc i) zero h = absurd (omega arith)
cost_more (suc i) (suc k) h = let rest = cost_more i k (omega arith) in omega arith

pub cost_some : (i : ℕ) → 2 ≤ cost i
cost_some zero = omega arith
cost_some (suc i) = omega arith

few : (n : Node) → length (children n) ≤ 2
few node.Iden = omega arith
few node.UnitNode = omega arith
few (node.Injl i) = omega arith
few (node.Injr i) = omega arith
few (node.Take i) = omega arith
few (node.Drop i) = omega arith
few (node.Comp i j) = omega arith
few (node.Case i j) = omega arith
few (node.Pair i j) = omega arith
few (node.Hidden h) = omega arith
few (node.Fail e) = omega arith
few node.Witness = omega arith
few (node.Word k m) = omega arith

load_entries : (i : ℕ) (is : List ℕ) → AreUnder i is → length is ≤ 2 → load (entries is) + 1 < cost i
load_entries i [] u l = let some = cost_some i in omega arith
load_entries zero (a ∷ is) u l = absurd (omega (arith, u.0))
load_entries (suc k) (a ∷ []) u l = let c = cost_more a k (omega (arith, u.0)) in omega arith
load_entries (suc k) (a ∷ b ∷ []) u l = let c = cost_more a k (omega (arith, u.0)) in let d = cost_more b k (omega (arith, u.1.0)) in omega arith
load_entries (suc k) (a ∷ b ∷ c ∷ is) u l = absurd (omega arith)

pub entered_less : (ns : List Node) (xs steps : List Step) (i : ℕ) (n : Node) → IsPlaced ns → slice_get ns i ≡ Some n →
    steps ≡ (xs ++ step.Leave i ∷ []) ++ entries (children n) → load steps < cost i + load xs
entered_less ns xs steps i n placed is e =
    let all = ap load e ∙ load_append (xs ++ step.Leave i ∷ []) (entries (children n)) in
    let front = load_append xs (step.Leave i ∷ []) in
    let more = load_entries i (children n) (children_under ns i n (follows_at ns i n placed is)) (few n) in
    omega arith

-- places of steps
pub within_append : (n : ℕ) (xs ys : List Step) → AreWithin n xs → AreWithin n ys → AreWithin n (xs ++ ys)
within_append n [] ys h g = g
within_append n (x ∷ xs) ys h g = (h.0, within_append n xs ys h.1 g)

pub within_front : (n : ℕ) (xs : List Step) (s : Step) → AreWithin n (xs ++ s ∷ []) → AreWithin n xs × (place_of s < n)
within_front n [] s h = (tt, h.0)
within_front n (x ∷ xs) s h = let rest = within_front n xs s h.1 in ((h.0, rest.0), rest.1)

within_entries : (n i : ℕ) (is : List ℕ) → i < n → AreUnder i is → AreWithin n (entries is)
within_entries n i [] l u = tt
within_entries n i (a ∷ is) l u = within_append n (entries is) (step.Enter a ∷ []) (within_entries n i is l u.1) ((let h = u.0 in omega arith), tt)

pub entered_within : (ns : List Node) (xs steps : List Step) (i : ℕ) (n : Node) → IsPlaced ns → slice_get ns i ≡ Some n → i < length ns → AreWithin (length ns) xs →
    steps ≡ (xs ++ step.Leave i ∷ []) ++ entries (children n) → AreWithin (length ns) steps
entered_within ns xs steps i n placed is l h e =
    subst (AreWithin (length ns)) (sym e)
    (within_append (length ns) (xs ++ step.Leave i ∷ []) (entries (children n)) (within_append (length ns) xs (step.Leave i ∷ []) h (l, tt))
    (within_entries (length ns) i (children n) l (children_under ns i n (follows_at ns i n placed is))))

-- marks
mark_by : (n i j : ℕ) (marks : List Bool) (done : List ℕ) (b : Bool) → nat_eq j i ≡ b → Marks n marks done → i < n → j < n → get_or (set marks i true) j false ≡ has j (done ++ i ∷ [])
mark_by n i j marks done true e m l h =
    let same : j ≡ i = eqb-true j i e in
    let there : get_or (set marks i true) i false ≡ true = get_or-set_same marks i true false (let c = m.count in omega arith) in
    ap (λ (x : ℕ). get_or (set marks i true) x false) same ∙ there ∙ sym (ap (λ (x : ℕ). has x (done ++ i ∷ [])) same ∙ has_self i done)
mark_by n i j marks done false e m l h =
    let apart : j ≡ i → ⊥ = λ same. (let yes : nat_eq j i ≡ true = eq-eqb j i same in absurd (cc)) in
    get_or-set_other marks i j true false apart ∙ m.each j h ∙ sym (has_other j i done apart)

pub marked : (n i : ℕ) (marks : List Bool) (done : List ℕ) → Marks n marks done → i < n → Marks n (set marks i true) (done ++ i ∷ [])
marked n i marks done m l = record {
  count = length-set marks i true ∙ m.count;
  each = λ j h. mark_by n i j marks done (nat_eq j i) refl m l h;
}

pub none_marked : (n : ℕ) → Marks n (replicate n false) []
none_marked n = record { count = length-replicate n false; each = λ i h. get_or-replicate n i false false h }

-- the walk, from its first step to its last
pub first_step : (ns : List Node) → IsPlaced ns → 0 < length ns → (i : ℕ) → i ≡ length ns - 1 → after ns (step.Enter i ∷ []) [] ≡ post_order ns
first_step ns placed full i e = ap (λ (x : ℕ). ends ns x []) e ∙ sym (post_order_ends ns (down_of ns placed) full)
