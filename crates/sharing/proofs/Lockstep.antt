-- Two lists of one term walked in lockstep: what has ended in the one stands at the same places as its like in the other.
use Rattle.std.proofs.Common.{◌≡◌, refl, ap, sym, subst, ◌∙◌, ℕ, zero, suc, ◌+◌, ◌≤◌, Bool, true, false, List, [], ◌∷◌, ◌++◌, length, Option, Some, None, arith}
use Rattle.std.specs.Prelude.{slice_get}
use Rattle.simplicity.specs.Nodes as node
use Rattle.simplicity.specs.Nodes.{Node, AreUnder, children, witness_number}
use Rattle.simplicity.specs.Order.{has, over, unless_ended, children_at}
use Rattle.simplicity.specs.Typing.{Typing}
use Rattle.simplicity.specs.Shared.{IsShared}
use Rattle.simplicity.specs.Pruning.{renamed}
use Rattle.sharing.specs.Images.{added}
use Rattle.sharing.proofs.Closed.{ends, IsDown, AllHad, IsClosed}
use Rattle.sharing.proofs.Merging.{within_of, there_at}
use Rattle.sharing.proofs.Walks.{ends_step, over_ends_under, ends_closed}
use Rattle.sharing.proofs.Orderly.{position, position_there, last_case}
use Rattle.sharing.proofs.Gathering.{children_are, has_at, last_get}
use Rattle.sharing.proofs.Merged.{neither_below, witness_back}

-- a node is its kind and its children
abbrev pub kind : Node → Node
kind n = renamed (λ i. 0) n

rebuilt : Node → List ℕ → Node
rebuilt (node.Injl i) (j ∷ is) = node.Injl j
rebuilt (node.Injr i) (j ∷ is) = node.Injr j
rebuilt (node.Take i) (j ∷ is) = node.Take j
rebuilt (node.Drop i) (j ∷ is) = node.Drop j
rebuilt (node.Comp i l) (j ∷ k ∷ is) = node.Comp j k
rebuilt (node.Case i l) (j ∷ k ∷ is) = node.Case j k
rebuilt (node.Pair i l) (j ∷ k ∷ is) = node.Pair j k
rebuilt n _ = n

rebuilt_same : (n : Node) → rebuilt (kind n) (children n) ≡ n
unfolding rebuilt
rebuilt_same (node.Injl i) = refl
rebuilt_same (node.Injr i) = refl
rebuilt_same (node.Take i) = refl
rebuilt_same (node.Drop i) = refl
rebuilt_same (node.Comp i j) = refl
rebuilt_same (node.Case i j) = refl
rebuilt_same (node.Pair i j) = refl
rebuilt_same _ = refl

pub node_by : (n m : Node) → kind n ≡ kind m → children n ≡ children m → n ≡ m
node_by n m e f = sym (rebuilt_same n) ∙ ap (λ (x : Node). rebuilt x (children n)) e ∙ ap (rebuilt (kind m)) f ∙ rebuilt_same m

pub kind_renamed : (f : ℕ → ℕ) (n : Node) → kind (renamed f n) ≡ kind n
kind_renamed f (node.Injl i) = refl
kind_renamed f (node.Injr i) = refl
kind_renamed f (node.Take i) = refl
kind_renamed f (node.Drop i) = refl
kind_renamed f (node.Comp i j) = refl
kind_renamed f (node.Case i j) = refl
kind_renamed f (node.Pair i j) = refl
kind_renamed f _ = refl

-- one for a witness
abbrev pub ones : Node → ℕ
ones node.Witness = 1
ones _ = 0

pub ones_kind : (n : Node) → ones (kind n) ≡ ones n
ones_kind (node.Injl i) = refl
ones_kind (node.Injr i) = refl
ones_kind (node.Take i) = refl
ones_kind (node.Drop i) = refl
ones_kind (node.Comp i j) = refl
ones_kind (node.Case i j) = refl
ones_kind (node.Pair i j) = refl
ones_kind _ = refl

-- how many of these are witnesses
abbrev pub ones_of : Option Node → ℕ
ones_of None = 0
ones_of (Some n) = ones n

abbrev pub held : List Node → List ℕ → ℕ
held ns [] = 0
held ns (i ∷ is) = ones_of (slice_get ns i) + held ns is

held_last : (ns : List Node) (xs : List ℕ) (i : ℕ) → held ns (xs ++ i ∷ []) ≡ held ns xs + ones_of (slice_get ns i)
held_last ns [] i = omega arith
held_last ns (x ∷ xs) i = let rest = held_last ns xs i in omega (arith, rest)

-- one side: a list whose nodes are shared under declared arrows, with the names of its witnesses
pub record Side : Type 0 where
  pub nodes : List Node
  pub arrows : Typing
  pub names : List ℕ
  pub down : IsDown nodes
  pub shared : IsShared nodes arrows

-- a node of one side and its like of the other
pub record Alike (a b : Side) (i j : ℕ) : Type 0 where
  pub left : Node
  pub right : Node
  pub left_there : slice_get a.nodes i ≡ Some left
  pub right_there : slice_get b.nodes j ≡ Some right
  pub kinds : kind left ≡ kind right
  pub arrows : slice_get a.arrows i ≡ slice_get b.arrows j
  pub named : left ≡ node.Witness → slice_get a.names (witness_number a.nodes i) ≡ slice_get b.names (witness_number b.nodes j)

right_witness : (a b : Side) (i j : ℕ) (p : Alike a b i j) → p.right ≡ node.Witness → p.left ≡ node.Witness
right_witness a b i j p e = witness_back (λ k. 0) p.left (p.kinds ∙ ap kind e)

abbrev turned : (a b : Side) (i j : ℕ) → Alike a b i j → Alike b a j i
turned a b i j p = record {
  left = p.right;
  right = p.left;
  left_there = p.right_there;
  right_there = p.left_there;
  kinds = sym p.kinds;
  arrows = sym p.arrows;
  named = λ e. sym (p.named (right_witness a b i j p e));
}

ones_alike : (a b : Side) (i j : ℕ) (p : Alike a b i j) → ones p.left ≡ ones p.right
ones_alike a b i j p = sym (ones_kind p.left) ∙ ap ones p.kinds ∙ ones_kind p.right

-- nodes of two sides that stand for the same terms, with so many witness leaves in all
pub data Pairs (a b : Side) : List ℕ → List ℕ → ℕ → Type 0 where
  NoPair : Pairs a b [] [] 0
  Pair : (i j : ℕ) (is js : List ℕ) (p : Alike a b i j) (w v u : ℕ) → u ≡ (ones p.left + w) + v →
      Pairs a b (children p.left) (children p.right) w → Pairs a b is js v → Pairs a b (i ∷ is) (j ∷ js) u

pub turned_pairs : (a b : Side) (is js : List ℕ) (u : ℕ) → Pairs a b is js u → Pairs b a js is u
turned_pairs a b _ _ _ NoPair = NoPair
turned_pairs a b _ _ _ (Pair i j is js p w v u e under rest) =
    let same = ones_alike a b i j p in
    Pair j i js is (turned a b i j p) w v u (omega (arith, e, same)) (turned_pairs a b (children p.left) (children p.right) w under) (turned_pairs a b is js v rest)

-- walks where the children have ended, and a step of a walk as what it adds to the walk from the children
ends_had : (ns : List Node) (i : ℕ) (done : List ℕ) → has i done ≡ true → ends ns i done ≡ done
ends_had ns i done h = rw h refl

over_had : (ns : List Node) (is done : List ℕ) → AllHad done is → over (ends ns) is done ≡ done
over_had ns [] done h = refl
over_had ns (i ∷ is) done h = ap (over (ends ns) is) (ends_had ns i done h.0) ∙ over_had ns is done h.1

added_had : (i : ℕ) (done : List ℕ) → has i done ≡ true → added i done ≡ done
added_had i done h = rw h refl

added_none : (i : ℕ) (done : List ℕ) → has i done ≡ false → added i done ≡ done ++ i ∷ []
added_none i done h = rw h refl

ends_added_by : (ns : List Node) → IsDown ns → (i : ℕ) (done : List ℕ) (b : Bool) → has i done ≡ b → IsClosed ns done →
    ends ns i done ≡ added i (over (ends ns) (children_at ns i) done)
ends_added_by ns down i done true h closed =
    ends_had ns i done h ∙ sym (added_had i done h) ∙ ap (added i) (sym (over_had ns (children_at ns i) done (closed i h)))
ends_added_by ns down i done false h closed =
    let none : has i (over (ends ns) (children_at ns i) done) ≡ false = over_ends_under ns down i i (children_at ns i) done (down i) (omega arith) ∙ h in
    ends_step ns down i done ∙ (let step : unless_ended (has i done) i (over (ends ns) (children_at ns i)) done ≡ over (ends ns) (children_at ns i) done ++ i ∷ [] = rw h refl in step)
    ∙ sym (added_none i (over (ends ns) (children_at ns i) done) none)

ends_added : (ns : List Node) → IsDown ns → (i : ℕ) (n : Node) (done : List ℕ) → slice_get ns i ≡ Some n → IsClosed ns done →
    ends ns i done ≡ added i (over (ends ns) (children n) done)
ends_added ns down i n done there closed =
    ends_added_by ns down i done (has i done) refl closed ∙ ap (λ (is : List ℕ). added i (over (ends ns) is done)) (children_are ns i n there)

-- a walk adds at most the witnesses of its pairs
held_added_by : (ns : List Node) (i : ℕ) (done : List ℕ) (b : Bool) → has i done ≡ b → held ns (added i done) ≤ held ns done + ones_of (slice_get ns i)
held_added_by ns i done true h = let same = ap (held ns) (added_had i done h) in omega (arith, same)
held_added_by ns i done false h = let same = ap (held ns) (added_none i done h) ∙ held_last ns done i in omega (arith, same)

held_grown_by : (ns : List Node) (i : ℕ) (done : List ℕ) (b : Bool) → has i done ≡ b → held ns done ≤ held ns (added i done)
held_grown_by ns i done true h = let same = ap (held ns) (added_had i done h) in omega (arith, same)
held_grown_by ns i done false h = let same = ap (held ns) (added_none i done h) ∙ held_last ns done i in omega (arith, same)

held_end : (a b : Side) (i j : ℕ) (p : Alike a b i j) (done : List ℕ) → IsClosed a.nodes done →
    held a.nodes (ends a.nodes i done) ≤ held a.nodes (over (ends a.nodes) (children p.left) done) + ones p.left
held_end a b i j p done closed =
    let inner = over (ends a.nodes) (children p.left) done in
    let most = held_added_by a.nodes i inner (has i inner) refl in
    let own : ones_of (slice_get a.nodes i) ≡ ones p.left = ap ones_of p.left_there in
    let same = ap (held a.nodes) (ends_added a.nodes a.down i p.left done p.left_there closed) in
    omega (arith, most, own, same)

pub held_most : (a b : Side) (is js : List ℕ) (u : ℕ) → Pairs a b is js u → (done : List ℕ) → IsClosed a.nodes done →
    held a.nodes (over (ends a.nodes) is done) ≤ held a.nodes done + u
held_most a b _ _ _ NoPair done closed = omega arith
held_most a b _ _ _ (Pair i j is js p w v u e under rest) done closed =
    let inner = held_most a b (children p.left) (children p.right) w under done closed in
    let own = held_end a b i j p done closed in
    let later = held_most a b is js v rest (ends a.nodes i done) (ends_closed a.nodes a.down i done closed) in
    omega (arith, e, inner, own, later)

-- where a walk adds as many witnesses as its pairs have, each part of it does
record Full (a b : Side) (i j : ℕ) (is : List ℕ) (p : Alike a b i j) (w v : ℕ) (done : List ℕ) : Type 0 where
  inner : held a.nodes (over (ends a.nodes) (children p.left) done) ≡ held a.nodes done + w
  own : held a.nodes (ends a.nodes i done) ≡ held a.nodes (over (ends a.nodes) (children p.left) done) + ones p.left
  later : held a.nodes (over (ends a.nodes) is (ends a.nodes i done)) ≡ held a.nodes (ends a.nodes i done) + v

full : (a b : Side) (i j : ℕ) (is js : List ℕ) (p : Alike a b i j) (w v : ℕ) → Pairs a b (children p.left) (children p.right) w → Pairs a b is js v →
    (done : List ℕ) → IsClosed a.nodes done → held a.nodes (over (ends a.nodes) is (ends a.nodes i done)) ≡ held a.nodes done + ((ones p.left + w) + v) → Full a b i j is p w v done
full a b i j is js p w v under rest done closed all =
    let x = held_most a b (children p.left) (children p.right) w under done closed in
    let y = held_end a b i j p done closed in
    let z = held_most a b is js v rest (ends a.nodes i done) (ends_closed a.nodes a.down i done closed) in
    record { inner = omega (arith, x, y, z, all); own = omega (arith, x, y, z, all); later = omega (arith, x, y, z, all) }

-- so a witness is new where the walk comes to it
new_by : (a b : Side) (i j : ℕ) (p : Alike a b i j) (inner : List ℕ) (c : Bool) → has i inner ≡ c → held a.nodes (added i inner) ≡ held a.nodes inner + ones p.left →
    p.left ≡ node.Witness → has i inner ≡ false
new_by a b i j p inner true h own e =
    let same = ap (held a.nodes) (added_had i inner h) in
    let one : ones p.left ≡ 1 = ap ones e in
    absurd (omega (arith, same, own, one))
new_by a b i j p inner false h own e = h

-- indices at one place of two lists
pub record Together (xs ys : List ℕ) (i j : ℕ) : Type 0 where
  pub place : ℕ
  pub left : slice_get xs place ≡ Some i
  pub right : slice_get ys place ≡ Some j

abbrev pub AllTogether : List ℕ → List ℕ → List ℕ → List ℕ → Type 0
AllTogether xs ys [] [] = Unit {0}
AllTogether xs ys (i ∷ is) (j ∷ js) = Together xs ys i j × AllTogether xs ys is js
AllTogether xs ys _ _ = ⊥

abbrev pub Once : List ℕ → Type 0
Once xs = (k l i : ℕ) → slice_get xs k ≡ Some i → slice_get xs l ≡ Some i → k ≡ l

turned_together : (xs ys : List ℕ) (i j : ℕ) → Together xs ys i j → Together ys xs j i
turned_together xs ys i j t = record { place = t.place; left = t.right; right = t.left }

turned_all : (xs ys is js : List ℕ) → AllTogether xs ys is js → AllTogether ys xs js is
turned_all xs ys [] [] h = tt
turned_all xs ys (i ∷ is) (j ∷ js) h = (turned_together xs ys i j h.0, turned_all xs ys is js h.1)
turned_all xs ys _ _ h = elim h [ ]

all_along : (xs ys vs ws is js : List ℕ) → ((i j : ℕ) → Together xs ys i j → Together vs ws i j) → AllTogether xs ys is js → AllTogether vs ws is js
all_along xs ys vs ws [] [] on h = tt
all_along xs ys vs ws (i ∷ is) (j ∷ js) on h = (on i j h.0, all_along xs ys vs ws is js on h.1)
all_along xs ys vs ws _ _ on h = elim h [ ]

right_one : (xs ys is js ks : List ℕ) → Once xs → AllTogether xs ys is js → AllTogether xs ys is ks → js ≡ ks
right_one xs ys [] [] [] once h g = refl
right_one xs ys [] (j ∷ js) ks once h g = elim h [ ]
right_one xs ys [] [] (k ∷ ks) once h g = elim g [ ]
right_one xs ys (i ∷ is) [] ks once h g = elim h [ ]
right_one xs ys (i ∷ is) (j ∷ js) [] once h g = elim g [ ]
right_one xs ys (i ∷ is) (j ∷ js) (k ∷ ks) once h g =
    let place : h.0.place ≡ g.0.place = once h.0.place g.0.place i h.0.left g.0.left in
    let there = sym h.0.right ∙ ap (slice_get ys) place ∙ g.0.right in
    let first : j ≡ k = cc in
    ap (λ (x : ℕ). x ∷ js) first ∙ ap (λ (l : List ℕ). k ∷ l) (right_one xs ys is js ks once h.1 g.1)

-- two walks are in lockstep: at each place stand a node and its like, and so do their children
pub record Matched (a b : Side) (xs ys : List ℕ) (i j : ℕ) : Type 0 where
  pub alike : Alike a b i j
  pub under : AllTogether xs ys (children alike.left) (children alike.right)

pub record Lockstep (a b : Side) (xs ys : List ℕ) : Type 0 where
  pub count : length xs ≡ length ys
  pub left_once : Once xs
  pub right_once : Once ys
  pub each : (k i j : ℕ) → slice_get xs k ≡ Some i → slice_get ys k ≡ Some j → Matched a b xs ys i j

turned_matched : (a b : Side) (xs ys : List ℕ) (i j : ℕ) → Matched a b xs ys i j → Matched b a ys xs j i
turned_matched a b xs ys i j m = record { alike = turned a b i j m.alike; under = turned_all xs ys (children m.alike.left) (children m.alike.right) m.under }

turned_lockstep : (a b : Side) (xs ys : List ℕ) → Lockstep a b xs ys → Lockstep b a ys xs
turned_lockstep a b xs ys good = record {
  count = sym good.count;
  left_once = good.right_once;
  right_once = good.left_once;
  each = λ k i j h g. turned_matched a b xs ys j i (good.each k j i g h);
}

-- where a node other than a witness has ended, its like has, at the same place
together_there : (a b : Side) (xs ys : List ℕ) → Lockstep a b xs ys → (i j : ℕ) (p : Alike a b i j) → AllTogether xs ys (children p.left) (children p.right) →
    (p.left ≡ node.Witness → ⊥) → has i xs ≡ true → Together xs ys i j
together_there a b xs ys good i j p under plain h =
    let k = position i xs in
    let there = position_there i xs h in
    let count = good.count in
    let inside = within_of xs k i there in
    let other = there_at ys k (omega (arith, inside, count)) in
    let m = good.each k i other.0 there other.1 in
    let lefts = sym m.alike.left_there ∙ p.left_there in
    let left : m.alike.left ≡ p.left = cc in
    let below : AllTogether xs ys (children p.left) (children m.alike.right) =
    subst (λ (n : Node). AllTogether xs ys (children n) (children m.alike.right)) left m.under in
    let right : m.alike.right ≡ p.right =
    node_by m.alike.right p.right (sym m.alike.kinds ∙ ap kind left ∙ p.kinds) (right_one xs ys (children p.left) (children m.alike.right) (children p.right) good.left_once below under) in
    let right_there : slice_get b.nodes other.0 ≡ Some p.right = m.alike.right_there ∙ ap Some right in
    let arrows : slice_get b.arrows other.0 ≡ slice_get b.arrows j = sym m.alike.arrows ∙ p.arrows in
    let one : other.0 ≡ j =
    neither_below other.0 j
    (λ l. b.shared other.0 j l (record { same = p.right; first = right_there; second = p.right_there; arrows = arrows; plain = λ e. plain (right_witness a b i j p e) }))
    (λ l. b.shared j other.0 l (record { same = p.right; first = p.right_there; second = right_there; arrows = sym arrows; plain = λ e. plain (right_witness a b i j p e) })) in
    record { place = k; left = there; right = other.1 ∙ ap Some one }

-- a step: a node and its like are there, or are added
record Stepped (a b : Side) (i j : ℕ) (xs ys vs ws : List ℕ) : Type 0 where
  good : Lockstep a b vs ws
  there : Together vs ws i j
  more : (x y : ℕ) → Together xs ys x y → Together vs ws x y

front_get : (xs : List ℕ) (y k x : ℕ) → slice_get xs k ≡ Some x → slice_get (xs ++ y ∷ []) k ≡ Some x
front_get [] y k x h = absurd (cc)
front_get (z ∷ xs) y zero x h = h
front_get (z ∷ xs) y (suc k) x h = front_get xs y k x h

length_last : (xs : List ℕ) (y : ℕ) → length (xs ++ y ∷ []) ≡ suc (length xs)
length_last [] y = refl
length_last (x ∷ xs) y = ap suc (length_last xs y)

together_more : (xs ys : List ℕ) (i j x y : ℕ) → Together xs ys x y → Together (xs ++ i ∷ []) (ys ++ j ∷ []) x y
together_more xs ys i j x y t = record { place = t.place; left = front_get xs i t.place x t.left; right = front_get ys j t.place y t.right }

once_last : (xs : List ℕ) (y : ℕ) → Once xs → has y xs ≡ false → Once (xs ++ y ∷ [])
once_last xs y once new k l i h g =
    last_case xs y i k h
    (λ f _. last_case xs y i l g (λ e _. once k l i f e)
    (λ _ e _. let there = has_at xs k y (f ∙ ap Some (sym e)) in absurd (cc)))
    (λ _ e m. last_case xs y i l g
    (λ f _. let there = has_at xs l y (f ∙ ap Some (sym e)) in absurd (cc))
    (λ _ _ n. m ∙ sym n))

stepped_new : (a b : Side) (xs ys : List ℕ) (i j : ℕ) → Lockstep a b xs ys → has i xs ≡ false → has j ys ≡ false → Matched a b xs ys i j →
    Stepped a b i j xs ys (xs ++ i ∷ []) (ys ++ j ∷ [])
stepped_new a b xs ys i j good left_new right_new new =
    let more : (x y : ℕ) → Together xs ys x y → Together (xs ++ i ∷ []) (ys ++ j ∷ []) x y = together_more xs ys i j in
    let count = good.count in
    let longer : (x y : ℕ) → Matched a b xs ys x y → Matched a b (xs ++ i ∷ []) (ys ++ j ∷ []) x y =
    λ x y m. record { alike = m.alike; under = all_along xs ys (xs ++ i ∷ []) (ys ++ j ∷ []) (children m.alike.left) (children m.alike.right) more m.under } in
    record {
      good = record {
        count = length_last xs i ∙ ap suc count ∙ sym (length_last ys j);
        left_once = once_last xs i good.left_once left_new;
        right_once = once_last ys j good.right_once right_new;
        each = λ k x y h g.
            last_case xs i x k h
            (λ f _. last_case ys j y k g (λ e _. longer x y (good.each k x y f e))
            (λ _ _ n. let inside = within_of xs k x f in absurd (omega (arith, inside, n, count))))
            (λ _ d m. last_case ys j y k g (λ e _. let inside = within_of ys k y e in absurd (omega (arith, inside, m, count)))
            (λ _ e _. subst (λ (z : ℕ). Matched a b (xs ++ i ∷ []) (ys ++ j ∷ []) z y) d
            (subst (λ (z : ℕ). Matched a b (xs ++ i ∷ []) (ys ++ j ∷ []) i z) e (longer i j new))));
      };
      there = record { place = length xs; left = last_get xs i; right = ap (slice_get (ys ++ j ∷ [])) count ∙ last_get ys j };
      more = more;
    }

abbrev IsNew : (a b : Side) (xs ys : List ℕ) (i j : ℕ) → Alike a b i j → Type 0
IsNew a b xs ys i j p = p.left ≡ node.Witness → (has i xs ≡ false) × (has j ys ≡ false)

stepped_by : (a b : Side) (xs ys : List ℕ) (i j : ℕ) (c d : Bool) → has i xs ≡ c → has j ys ≡ d → Lockstep a b xs ys → (p : Alike a b i j) →
    AllTogether xs ys (children p.left) (children p.right) → IsNew a b xs ys i j p → Stepped a b i j xs ys (added i xs) (added j ys)
stepped_by a b xs ys i j true d h g good p under new =
    let plain : p.left ≡ node.Witness → ⊥ = λ e. (let none = (new e).0 in absurd (cc)) in
    let t = together_there a b xs ys good i j p under plain h in
    subst (λ (vs : List ℕ). Stepped a b i j xs ys vs (added j ys)) (sym (added_had i xs h))
    (subst (λ (ws : List ℕ). Stepped a b i j xs ys xs ws) (sym (added_had j ys (has_at ys t.place j t.right))) (record { good = good; there = t; more = λ x y m. m }))
stepped_by a b xs ys i j false true h g good p under new =
    let plain : p.right ≡ node.Witness → ⊥ = λ e. (let none = (new (right_witness a b i j p e)).1 in absurd (cc)) in
    let t = together_there b a ys xs (turned_lockstep a b xs ys good) j i (turned a b i j p) (turned_all xs ys (children p.left) (children p.right) under) plain g in
    let there = has_at xs t.place i t.right in
    absurd (cc)
stepped_by a b xs ys i j false false h g good p under new =
    subst (λ (vs : List ℕ). Stepped a b i j xs ys vs (added j ys)) (sym (added_none i xs h))
    (subst (λ (ws : List ℕ). Stepped a b i j xs ys (xs ++ i ∷ []) ws) (sym (added_none j ys g))
    (stepped_new a b xs ys i j good h g (record { alike = p; under = under })))

-- walks from pairs stay in lockstep, where each adds as many witnesses as the pairs have
pub record Walked (a b : Side) (is js xs ys : List ℕ) : Type 0 where
  pub good : Lockstep a b (over (ends a.nodes) is xs) (over (ends b.nodes) js ys)
  pub there : AllTogether (over (ends a.nodes) is xs) (over (ends b.nodes) js ys) is js
  pub more : (x y : ℕ) → Together xs ys x y → Together (over (ends a.nodes) is xs) (over (ends b.nodes) js ys) x y

pub walked : (a b : Side) (is js : List ℕ) (u : ℕ) → Pairs a b is js u → (xs ys : List ℕ) → IsClosed a.nodes xs → IsClosed b.nodes ys → Lockstep a b xs ys →
    held a.nodes (over (ends a.nodes) is xs) ≡ held a.nodes xs + u → held b.nodes (over (ends b.nodes) js ys) ≡ held b.nodes ys + u → Walked a b is js xs ys
walked a b _ _ _ NoPair xs ys c d good all both = record { good = good; there = tt; more = λ x y t. t }
walked a b _ _ _ (Pair i j is js p w v u e under rest) xs ys c d good all both =
    let back = turned a b i j p in
    let same = ones_alike a b i j p in
    let f = full a b i j is js p w v under rest xs c (all ∙ ap (λ (x : ℕ). held a.nodes xs + x) e) in
    let g = full b a j i js is back w v (turned_pairs a b (children p.left) (children p.right) w under) (turned_pairs a b is js v rest) ys d (omega (arith, both, e, same)) in
    let inner = walked a b (children p.left) (children p.right) w under xs ys c d good f.inner g.inner in
    let vs = over (ends a.nodes) (children p.left) xs in
    let ws = over (ends b.nodes) (children p.right) ys in
    let left : ends a.nodes i xs ≡ added i vs = ends_added a.nodes a.down i p.left xs p.left_there c in
    let right : ends b.nodes j ys ≡ added j ws = ends_added b.nodes b.down j p.right ys p.right_there d in
    let new : IsNew a b vs ws i j p = λ q. (
      new_by a b i j p vs (has i vs) refl (ap (held a.nodes) (sym left) ∙ f.own) q,
      new_by b a j i back ws (has j ws) refl (ap (held b.nodes) (sym right) ∙ g.own) (witness_back (λ k. 0) p.right (sym p.kinds ∙ ap kind q)),
    ) in
    let step : Stepped a b i j vs ws (ends a.nodes i xs) (ends b.nodes j ys) =
    subst (λ (x : List ℕ). Stepped a b i j vs ws x (ends b.nodes j ys)) (sym left)
    (subst (λ (x : List ℕ). Stepped a b i j vs ws (added i vs) x) (sym right) (stepped_by a b vs ws i j (has i vs) (has j ws) refl refl inner.good p inner.there new)) in
    let later = walked a b is js v rest (ends a.nodes i xs) (ends b.nodes j ys) (ends_closed a.nodes a.down i xs c) (ends_closed b.nodes b.down j ys d) step.good f.later g.later in
    record {
      good = later.good;
      there = (later.more i j step.there, later.there);
      more = λ x y t. later.more x y (step.more x y (inner.more x y t));
    }
