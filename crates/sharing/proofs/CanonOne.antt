-- A term with declared arrows has one canonical list at most: its lists are walked in lockstep, so what they gather is one list.
use Rattle.std.proofs.Common.{◌≡◌, refl, ap, sym, subst, ◌∙◌, ℕ, zero, suc, ◌+◌, ◌-◌, ◌<◌, ◌≤◌, true, List, [], ◌∷◌, length, map, Option, Some, None, arith, eqb-true}
use Rattle.std.specs.Prelude.{slice_get, nat_eq}
use Rattle.std.specs.Option.{unwrap_or}
use Rattle.simplicity.specs.Nodes as node
use Rattle.simplicity.specs.Nodes.{Node, IsPlaced, children, count_after, witness_number}
use Rattle.simplicity.specs.Order.{has, post_order, IsReached}
use Rattle.simplicity.specs.Typing.{Typing, Arrow}
use Rattle.simplicity.specs.Pruning.{renamed, picked, gathered, numbers_next, numbers_at, gathered_numbers}
use Rattle.simplicity.specs.Canon as declared
use Rattle.simplicity.specs.Canon.{Declared, Stands, leaves, ListsSubterms, names_at, IsCanon}
use Rattle.sharing.specs.Laws.{CanonIsOne}
use Rattle.sharing.proofs.Closed.{ends}
use Rattle.sharing.proofs.Merging.{within_of, there_at}
use Rattle.sharing.proofs.Walks.{or_case}
use Rattle.sharing.proofs.Orderly.{position, position_there, post_order_ends}
use Rattle.sharing.proofs.Gathering.{down_of, children_renamed, picked_is, has_at}
use Rattle.sharing.proofs.Merged.{Kindly, IsWitness, IsPlain, kindly, witness_back}
use Rattle.sharing.proofs.Reordered.{reordered_alike}
use Rattle.sharing.proofs.Unfolded.{number_next}
use Rattle.sharing.proofs.Lockstep.{kind, node_by, kind_renamed, ones, ones_of, held, Side, Alike, Pairs, NoPair, Pair, turned_pairs, held_most, AllTogether, Once, Matched, Lockstep, walked}

-- a list of subterms, as one side
abbrev side_of : (t : Declared) (ns : List Node) (ds : Typing) (names : List ℕ) → ListsSubterms t ns ds names → Side
side_of t ns ds names s = record { nodes = ns; arrows = ds; names = names; down = down_of ns s.placed; shared = s.different }

-- nodes that stand for one term are pairs
abbrev StandsIn : Side → ℕ → Declared → Type 0
StandsIn a i t = Stands a.nodes a.arrows a.names i t

plain_pair : (a b : Side) (i j : ℕ) (is js : List ℕ) (n m : Node) (e : Option Arrow) (w v u : ℕ) → slice_get a.nodes i ≡ Some n → slice_get b.nodes j ≡ Some m →
    slice_get a.arrows i ≡ Some e → slice_get b.arrows j ≡ Some e → kind n ≡ kind m → (n ≡ node.Witness → ⊥) → u ≡ (ones n + w) + v →
    Pairs a b (children n) (children m) w → Pairs a b is js v → Pairs a b (i ∷ is) (j ∷ js) u
plain_pair a b i j is js n m e w v u h g d f kinds plain count under rest =
    Pair i j is js
    (record { left = n; right = m; left_there = h; right_there = g; kinds = kinds; arrows = d ∙ sym f; named = λ q. absurd (plain q) })
    w v u count under rest

pairs : (a b : Side) (i j : ℕ) (t : Declared) (is js : List ℕ) (v : ℕ) → StandsIn a i t → StandsIn b j t → Pairs a b is js v → Pairs a b (i ∷ is) (j ∷ js) (leaves t + v)
pairs a b _ _ _ is js v (declared.StandsIden i r h d) (declared.StandsIden j _ g f) rest =
    plain_pair a b i j is js node.Iden node.Iden (Some r) 0 v (0 + v) h g d f refl (λ q. absurd (cc)) (omega arith) NoPair rest
pairs a b _ _ _ is js v (declared.StandsUnit i r h d) (declared.StandsUnit j _ g f) rest =
    plain_pair a b i j is js node.UnitNode node.UnitNode (Some r) 0 v (0 + v) h g d f refl (λ q. absurd (cc)) (omega arith) NoPair rest
pairs a b _ _ _ is js v (declared.StandsInjl i x r t h d s) (declared.StandsInjl j y _ _ g f z) rest =
    plain_pair a b i j is js (node.Injl x) (node.Injl y) (Some r) (leaves t + 0) v (leaves t + v) h g d f refl (λ q. absurd (cc)) (omega arith)
    (pairs a b x y t [] [] 0 s z NoPair) rest
pairs a b _ _ _ is js v (declared.StandsInjr i x r t h d s) (declared.StandsInjr j y _ _ g f z) rest =
    plain_pair a b i j is js (node.Injr x) (node.Injr y) (Some r) (leaves t + 0) v (leaves t + v) h g d f refl (λ q. absurd (cc)) (omega arith)
    (pairs a b x y t [] [] 0 s z NoPair) rest
pairs a b _ _ _ is js v (declared.StandsTake i x r t h d s) (declared.StandsTake j y _ _ g f z) rest =
    plain_pair a b i j is js (node.Take x) (node.Take y) (Some r) (leaves t + 0) v (leaves t + v) h g d f refl (λ q. absurd (cc)) (omega arith)
    (pairs a b x y t [] [] 0 s z NoPair) rest
pairs a b _ _ _ is js v (declared.StandsDrop i x r t h d s) (declared.StandsDrop j y _ _ g f z) rest =
    plain_pair a b i j is js (node.Drop x) (node.Drop y) (Some r) (leaves t + 0) v (leaves t + v) h g d f refl (λ q. absurd (cc)) (omega arith)
    (pairs a b x y t [] [] 0 s z NoPair) rest
pairs a b _ _ _ is js v (declared.StandsComp i x k r l t h d s o) (declared.StandsComp j y m _ _ _ g f z p) rest =
    plain_pair a b i j is js (node.Comp x k) (node.Comp y m) (Some r) (leaves l + (leaves t + 0)) v ((leaves l + leaves t) + v) h g d f refl (λ q. absurd (cc)) (omega arith)
    (pairs a b x y l (k ∷ []) (m ∷ []) (leaves t + 0) s z (pairs a b k m t [] [] 0 o p NoPair)) rest
pairs a b _ _ _ is js v (declared.StandsCase i x k r l t h d s o) (declared.StandsCase j y m _ _ _ g f z p) rest =
    plain_pair a b i j is js (node.Case x k) (node.Case y m) (Some r) (leaves l + (leaves t + 0)) v ((leaves l + leaves t) + v) h g d f refl (λ q. absurd (cc)) (omega arith)
    (pairs a b x y l (k ∷ []) (m ∷ []) (leaves t + 0) s z (pairs a b k m t [] [] 0 o p NoPair)) rest
pairs a b _ _ _ is js v (declared.StandsPair i x k r l t h d s o) (declared.StandsPair j y m _ _ _ g f z p) rest =
    plain_pair a b i j is js (node.Pair x k) (node.Pair y m) (Some r) (leaves l + (leaves t + 0)) v ((leaves l + leaves t) + v) h g d f refl (λ q. absurd (cc)) (omega arith)
    (pairs a b x y l (k ∷ []) (m ∷ []) (leaves t + 0) s z (pairs a b k m t [] [] 0 o p NoPair)) rest
pairs a b _ _ _ is js v (declared.StandsAssertL i x k r l e h d s o c) (declared.StandsAssertL j y m _ _ _ g f z p q) rest =
    plain_pair a b i j is js (node.Case x k) (node.Case y m) (Some r) (leaves l + 0) v (leaves l + v) h g d f refl (λ q. absurd (cc)) (omega arith)
    (pairs a b x y l (k ∷ []) (m ∷ []) 0 s z
    (plain_pair a b k m [] [] (node.Hidden e) (node.Hidden e) None 0 0 0 o p c q refl (λ q. absurd (cc)) refl NoPair NoPair)) rest
pairs a b _ _ _ is js v (declared.StandsAssertR i x k r e t h d o c s) (declared.StandsAssertR j y m _ _ _ g f p q z) rest =
    plain_pair a b i j is js (node.Case x k) (node.Case y m) (Some r) (leaves t + 0) v (leaves t + v) h g d f refl (λ q. absurd (cc)) (omega arith)
    (plain_pair a b x y (k ∷ []) (m ∷ []) (node.Hidden e) (node.Hidden e) None 0 (leaves t + 0) (leaves t + 0) o p c q refl (λ q. absurd (cc)) (omega arith) NoPair
    (pairs a b k m t [] [] 0 s z NoPair)) rest
pairs a b _ _ _ is js v (declared.StandsFail i r e h d) (declared.StandsFail j _ _ g f) rest =
    plain_pair a b i j is js (node.Fail e) (node.Fail e) (Some r) 0 v (0 + v) h g d f refl (λ q. absurd (cc)) (omega arith) NoPair rest
pairs a b _ _ _ is js v (declared.StandsWord i k n r h d) (declared.StandsWord j _ _ _ g f) rest =
    plain_pair a b i j is js (node.Word k n) (node.Word k n) (Some r) 0 v (0 + v) h g d f refl (λ q. absurd (cc)) (omega arith) NoPair rest
pairs a b _ _ _ is js v (declared.StandsWitness i n r h d o) (declared.StandsWitness j _ _ g f p) rest =
    Pair i j is js
    (record { left = node.Witness; right = node.Witness; left_there = h; right_there = g; kinds = refl; arrows = d ∙ sym f; named = λ q. o ∙ sym p })
    0 v (1 + v) (omega arith) NoPair rest

-- where all nodes have ended, all witnesses of a list are held
abbrev before : ℕ → ℕ → ℕ → ℕ
before zero i c = 0
before (suc m) zero c = c
before (suc m) (suc i) c = before m i c

before_next : (m i c : ℕ) → before m i c ≤ before (suc m) i c
before_next zero i c = omega arith
before_next (suc m) zero c = omega arith
before_next (suc m) (suc i) c = before_next m i c

before_none : (m c : ℕ) → before m m c ≡ 0
before_none zero c = refl
before_none (suc m) c = before_none m c

before_own : (m c : ℕ) → before (suc m) m c ≡ c
before_own zero c = refl
before_own (suc m) c = before_own m c

before_most : (m i c : ℕ) → before m i c ≤ c
before_most zero i c = omega arith
before_most (suc m) zero c = omega arith
before_most (suc m) (suc i) c = before_most m i c

abbrev held_before : ℕ → List Node → List ℕ → ℕ
held_before m ns [] = 0
held_before m ns (i ∷ is) = before m i (ones_of (slice_get ns i)) + held_before m ns is

held_next : (m : ℕ) (ns : List Node) (done : List ℕ) → held_before m ns done ≤ held_before (suc m) ns done
held_next m ns [] = omega arith
held_next m ns (x ∷ xs) =
    let first = before_next m x (ones_of (slice_get ns x)) in
    let rest = held_next m ns xs in
    omega (arith, first, rest)

held_most_before : (m : ℕ) (ns : List Node) (done : List ℕ) → held_before m ns done ≤ held ns done
held_most_before m ns [] = omega arith
held_most_before m ns (x ∷ xs) =
    let first = before_most m x (ones_of (slice_get ns x)) in
    let rest = held_most_before m ns xs in
    omega (arith, first, rest)

held_own : (m : ℕ) (ns : List Node) (done : List ℕ) → has m done ≡ true → held_before m ns done + ones_of (slice_get ns m) ≤ held_before (suc m) ns done
held_own m ns [] h = absurd (cc)
held_own m ns (x ∷ xs) h = or_case (nat_eq m x) (has m xs) h (λ e. here (eqb-true m x e)) (λ e. later (held_own m ns xs e))
  where
    here : m ≡ x → held_before m ns (x ∷ xs) + ones_of (slice_get ns m) ≤ held_before (suc m) ns (x ∷ xs)
    here e =
        let none : before m x (ones_of (slice_get ns x)) ≡ 0 = ap (λ (y : ℕ). before y x (ones_of (slice_get ns x))) e ∙ before_none x (ones_of (slice_get ns x)) in
        let own : before (suc m) x (ones_of (slice_get ns x)) ≡ ones_of (slice_get ns x) =
        ap (λ (y : ℕ). before (suc y) x (ones_of (slice_get ns x))) e ∙ before_own x (ones_of (slice_get ns x)) in
        let same : ones_of (slice_get ns m) ≡ ones_of (slice_get ns x) = ap (λ (y : ℕ). ones_of (slice_get ns y)) e in
        let rest = held_next m ns xs in
        omega (arith, none, own, same, rest)

    later : held_before m ns xs + ones_of (slice_get ns m) ≤ held_before (suc m) ns xs → held_before m ns (x ∷ xs) + ones_of (slice_get ns m) ≤ held_before (suc m) ns (x ∷ xs)
    later rest = let first = before_next m x (ones_of (slice_get ns x)) in omega (arith, first, rest)

number_none : (ns : List Node) → witness_number ns 0 ≡ 0
number_none [] = refl
number_none (n ∷ ns) = refl

count_ones : (n : Node) (w : ℕ) → count_after n w ≡ w + ones n
count_ones node.Witness w = refl
count_ones _ w = omega arith

held_all : (m : ℕ) (ns : List Node) (done : List ℕ) → m ≤ length ns → ((i : ℕ) → i < length ns → has i done ≡ true) → witness_number ns m ≤ held_before m ns done
held_all zero ns done l on = let none = number_none ns in omega (arith, none)
held_all (suc m) ns done l on =
    let n = there_at ns m l in
    let next = number_next ns m n.0 n.1 ∙ count_ones n.0 (witness_number ns m) in
    let same : ones_of (slice_get ns m) ≡ ones n.0 = ap ones_of n.1 in
    let own = held_own m ns done (on m l) in
    let rest = held_all m ns done (omega arith) on in
    omega (arith, next, same, own, rest)

-- a walk from the root holds as many witnesses as the term has leaves
root_holds : (a b : Side) (j : ℕ) (t : Declared) → 0 < length a.nodes → Pairs a b ((length a.nodes - 1) ∷ []) (j ∷ []) (leaves t + 0) →
    ((i : ℕ) → i < length a.nodes → IsReached a.nodes i) → witness_number a.nodes (length a.nodes) ≡ leaves t → held a.nodes (ends a.nodes (length a.nodes - 1) []) ≡ 0 + (leaves t + 0)
root_holds a b j t some from reached alone =
    let most = held_most a b ((length a.nodes - 1) ∷ []) (j ∷ []) (leaves t + 0) from [] (λ k h. absurd (cc)) in
    let all = held_all (length a.nodes) a.nodes (post_order a.nodes) (omega arith) reached in
    let within = held_most_before (length a.nodes) a.nodes (post_order a.nodes) in
    let same = ap (held a.nodes) (post_order_ends a.nodes a.down some) in
    omega (arith, most, all, within, same, alone)

-- what is gathered from two walks in lockstep
place_of : (xs : List ℕ) (k i : ℕ) → Once xs → slice_get xs k ≡ Some i → position i xs ≡ k
place_of xs k i once h = once (position i xs) k i (position_there i xs (has_at xs k i h)) h

places_same : (a b : Side) (xs ys : List ℕ) → Lockstep a b xs ys → (is js : List ℕ) → AllTogether xs ys is js → map (λ i. position i xs) is ≡ map (λ j. position j ys) js
places_same a b xs ys good [] [] h = refl
places_same a b xs ys good (i ∷ is) (j ∷ js) h =
    let first : position i xs ≡ position j ys = place_of xs h.0.place i good.left_once h.0.left ∙ sym (place_of ys h.0.place j good.right_once h.0.right) in
    ap (λ (x : ℕ). x ∷ map (λ i. position i xs) is) first ∙ ap (λ (l : List ℕ). position j ys ∷ l) (places_same a b xs ys good is js h.1)
places_same a b xs ys good _ _ h = elim h [ ]

node_same : (a b : Side) (xs ys : List ℕ) (i j : ℕ) → Lockstep a b xs ys → (m : Matched a b xs ys i j) →
    renamed (λ k. position k xs) m.alike.left ≡ renamed (λ k. position k ys) m.alike.right
node_same a b xs ys i j good m =
    let n = m.alike.left in
    let o = m.alike.right in
    node_by (renamed (λ k. position k xs) n) (renamed (λ k. position k ys) o)
    (kind_renamed (λ k. position k xs) n ∙ m.alike.kinds ∙ sym (kind_renamed (λ k. position k ys) o))
    (children_renamed (λ k. position k xs) n ∙ places_same a b xs ys good (children n) (children o) m.under ∙ sym (children_renamed (λ k. position k ys) o))

-- each element and its like, of the rest of two walks
abbrev AllMatched : Side → Side → List ℕ → List ℕ → List ℕ → List ℕ → Type 0
AllMatched a b xs ys is js = (k i j : ℕ) → slice_get is k ≡ Some i → slice_get js k ≡ Some j → Matched a b xs ys i j

picked_same : (a b : Side) (xs ys : List ℕ) → Lockstep a b xs ys → (is js : List ℕ) → length is ≡ length js → AllMatched a b xs ys is js →
    picked (λ i. position i xs) a.nodes is ≡ picked (λ j. position j ys) b.nodes js
picked_same a b xs ys good [] [] l on = refl
picked_same a b xs ys good [] (j ∷ js) l on = absurd (omega arith)
picked_same a b xs ys good (i ∷ is) [] l on = absurd (omega arith)
picked_same a b xs ys good (i ∷ is) (j ∷ js) l on =
    let m = on 0 i j refl refl in
    let rest = picked_same a b xs ys good is js (omega arith) (λ k x y h g. on (suc k) x y h g) in
    picked_is (λ k. position k xs) a.nodes is i m.alike.left m.alike.left_there
    ∙ ap (λ (n : Node). n ∷ picked (λ k. position k xs) a.nodes is) (node_same a b xs ys i j good m)
    ∙ ap (λ (ns : List Node). renamed (λ k. position k ys) m.alike.right ∷ ns) rest
    ∙ sym (picked_is (λ k. position k ys) b.nodes js j m.alike.right m.alike.right_there)

numbers_plain : (n : Node) (number : ℕ) (rest : List ℕ) → (n ≡ node.Witness → ⊥) → numbers_next (Some n) number rest ≡ rest
numbers_plain node.Witness number rest plain = absurd (plain refl)
numbers_plain _ number rest plain = refl

names_next : (a b : Side) (i j : ℕ) (is js : List ℕ) (p : Alike a b i j) → Kindly p.left → names_at a.names (numbers_at a.nodes is) ≡ names_at b.names (numbers_at b.nodes js) →
    names_at a.names (numbers_at a.nodes (i ∷ is)) ≡ names_at b.names (numbers_at b.nodes (j ∷ js))
names_next a b i j is js p (IsWitness e) rest =
    let left : slice_get a.nodes i ≡ Some node.Witness = p.left_there ∙ ap Some e in
    let right : slice_get b.nodes j ≡ Some node.Witness = p.right_there ∙ ap Some (witness_back (λ k. 0) p.right (sym p.kinds ∙ ap kind e)) in
    ap (λ (o : Option Node). names_at a.names (numbers_next o (witness_number a.nodes i) (numbers_at a.nodes is))) left
    ∙ ap (λ (o : Option ℕ). unwrap_or o 0 ∷ names_at a.names (numbers_at a.nodes is)) (p.named e)
    ∙ ap (λ (l : List ℕ). unwrap_or (slice_get b.names (witness_number b.nodes j)) 0 ∷ l) rest
    ∙ ap (λ (o : Option Node). names_at b.names (numbers_next o (witness_number b.nodes j) (numbers_at b.nodes js))) (sym right)
names_next a b i j is js p (IsPlain none) rest =
    let left = ap (λ (o : Option Node). numbers_next o (witness_number a.nodes i) (numbers_at a.nodes is)) p.left_there
    ∙ numbers_plain p.left (witness_number a.nodes i) (numbers_at a.nodes is) (λ e. none (λ k. 0) (ap kind e)) in
    let right = ap (λ (o : Option Node). numbers_next o (witness_number b.nodes j) (numbers_at b.nodes js)) p.right_there
    ∙ numbers_plain p.right (witness_number b.nodes j) (numbers_at b.nodes js) (λ e. none (λ k. 0) (p.kinds ∙ ap kind e)) in
    ap (names_at a.names) left ∙ rest ∙ ap (names_at b.names) (sym right)

names_same : (a b : Side) (xs ys : List ℕ) → (is js : List ℕ) → length is ≡ length js → AllMatched a b xs ys is js →
    names_at a.names (numbers_at a.nodes is) ≡ names_at b.names (numbers_at b.nodes js)
names_same a b xs ys [] [] l on = refl
names_same a b xs ys [] (j ∷ js) l on = absurd (omega arith)
names_same a b xs ys (i ∷ is) [] l on = absurd (omega arith)
names_same a b xs ys (i ∷ is) (j ∷ js) l on =
    let m = on 0 i j refl refl in
    names_next a b i j is js m.alike (kindly m.alike.left) (names_same a b xs ys is js (omega arith) (λ k x y h g. on (suc k) x y h g))

pair_within : (a b : Side) (i : ℕ) (is js : List ℕ) (u : ℕ) → Pairs a b (i ∷ is) js u → i < length a.nodes
pair_within a b _ _ _ _ (Pair i j is js p w v u e under rest) = within_of a.nodes i p.left p.left_there

walks_match : (a b : Side) (t : Declared) → Pairs a b ((length a.nodes - 1) ∷ []) ((length b.nodes - 1) ∷ []) (leaves t + 0) → ((i : ℕ) → i < length a.nodes → IsReached a.nodes i) →
    ((j : ℕ) → j < length b.nodes → IsReached b.nodes j) → witness_number a.nodes (length a.nodes) ≡ leaves t → witness_number b.nodes (length b.nodes) ≡ leaves t →
    Lockstep a b (post_order a.nodes) (post_order b.nodes)
walks_match a b t from reached others alone other =
    let i = length a.nodes - 1 in
    let j = length b.nodes - 1 in
    let back = turned_pairs a b (i ∷ []) (j ∷ []) (leaves t + 0) from in
    let left_some : 0 < length a.nodes = (let inside = pair_within a b i [] (j ∷ []) (leaves t + 0) from in omega (arith, inside)) in
    let right_some : 0 < length b.nodes = (let inside = pair_within b a j [] (i ∷ []) (leaves t + 0) back in omega (arith, inside)) in
    let none : Lockstep a b [] [] =
    record { count = refl; left_once = λ k l x h g. absurd (cc); right_once = λ k l x h g. absurd (cc); each = λ k x y h g. absurd (cc) } in
    let all = walked a b (i ∷ []) (j ∷ []) (leaves t + 0) from [] [] (λ k h. absurd (cc)) (λ k h. absurd (cc)) none
    (root_holds a b j t left_some from reached alone) (root_holds b a i t right_some back others other) in
    subst (λ (xs : List ℕ). Lockstep a b xs (post_order b.nodes)) (sym (post_order_ends a.nodes a.down left_some))
    (subst (λ (ys : List ℕ). Lockstep a b (ends a.nodes i []) ys) (sym (post_order_ends b.nodes b.down right_some)) all.good)

-- two lists of a term's subterms gather one list, with the same names
record GatherOne (ns ms : List Node) (names others : List ℕ) : Type 0 where
  some : 0 < length ns
  same : gathered ms ≡ gathered ns
  named : names_at names (gathered_numbers ns) ≡ names_at others (gathered_numbers ms)

gather_one : (t : Declared) (ns ms : List Node) (ds es : Typing) (names others : List ℕ) → ListsSubterms t ns ds names → ListsSubterms t ms es others → GatherOne ns ms names others
gather_one t ns ms ds es names others x y =
    let a = side_of t ns ds names x in
    let b = side_of t ms es others y in
    let from : Pairs a b ((length ns - 1) ∷ []) ((length ms - 1) ∷ []) (leaves t + 0) = pairs a b (length ns - 1) (length ms - 1) t [] [] 0 x.whole y.whole NoPair in
    let good = walks_match a b t from x.reached y.reached x.alone y.alone in
    record {
      some = (let inside = pair_within a b (length ns - 1) [] ((length ms - 1) ∷ []) (leaves t + 0) from in omega (arith, inside));
      same = sym (picked_same a b (post_order ns) (post_order ms) good (post_order ns) (post_order ms) good.count good.each);
      named = names_same a b (post_order ns) (post_order ms) (post_order ns) (post_order ms) good.count good.each;
    }

pub canon_is_one : CanonIsOne
canon_is_one t root ms ls us vs new_names other_names a b =
    let one = gather_one t a.list b.list a.declared b.declared a.names b.names a.subterms b.subterms in
    let lists = reordered_alike a.list b.list ms ls us vs a.places b.places root a.subterms.placed one.some one.same a.reordered b.reordered in
    (lists.0, lists.1, a.named ∙ one.named ∙ sym b.named)
