-- A list and the bytes that spell it determine each other.
use Rattle.std.proofs.Common.{◌≡◌, refl, ap, sym, subst, ◌∙◌, ℕ, ◌+◌, ◌-◌, ◌*◌, ◌^◌, ◌<◌, Bool, true, false, List, [], ◌∷◌, ◌++◌, length, take, replicate, arith, append_assoc, length-append}
use Rattle.std.proofs.lemmas.List.{length-replicate}
use Rattle.std.proofs.Math.Seq.{take-length}
use Rattle.simplicity.specs.Types.{Kind, Value, AreOf, code, word_count}
use Rattle.simplicity.specs.Nodes as node
use Rattle.simplicity.specs.Nodes.{AreUnder, Node, children, IsPlaced, PlacedAfter, CanFollow, HasRoot}
use Rattle.simplicity.specs.Carried.{IsCarried, AreCarried, AreBytes, AreBelow256}
use Rattle.simplicity.specs.Spelling.{number_bits, byte_bits, natural, node_bits, nodes_bits, program_bits, codes_of, IsPadded, Spelled, IsStream}
use Rattle.simplicity.proofs.Bits.{number_apart, natural_apart, bytes_apart, bytes_length}
use Rattle.simplicity.proofs.Unfold.{children_under}
use Rattle.simplicity.proofs.Values.{code_apart}

-- distances, and what follows
one_apart : (i l r : ℕ) (us vs : List Bool) → l < i → r < i → natural (i - l) ++ us ≡ natural (i - r) ++ vs → (l ≡ r) × (us ≡ vs)
one_apart i l r us vs h g e =
    let read = natural_apart (i - l) (i - r) us vs (omega arith) (omega arith) e in
    let same : i - l ≡ i - r = read.0 in
    (omega arith, read.1)

two_apart : (i l r j k : ℕ) (us vs : List Bool) → l < i → r < i → j < i → k < i →
    (natural (i - l) ++ natural (i - r)) ++ us ≡ (natural (i - j) ++ natural (i - k)) ++ vs → (l ≡ j) × (r ≡ k) × (us ≡ vs)
two_apart i l r j k us vs h g h' g' e =
    let grouped : natural (i - l) ++ (natural (i - r) ++ us) ≡ natural (i - j) ++ (natural (i - k) ++ vs) =
    sym (append_assoc (natural (i - l)) (natural (i - r)) us) ∙ e ∙ append_assoc (natural (i - j)) (natural (i - k)) vs in
    let first = one_apart i l j (natural (i - r) ++ us) (natural (i - k) ++ vs) h h' grouped in
    let second = one_apart i r k us vs g g' first.1 in
    (first.0, second.0, second.1)

carried_apart : (n : ℕ) (xs ys : List ℕ) (us vs : List Bool) → AreBytes n xs → AreBytes n ys → byte_bits xs ++ us ≡ byte_bits ys ++ vs → (xs ≡ ys) × (us ≡ vs)
carried_apart n xs ys us vs h g e = bytes_apart xs ys us vs (h.0 ∙ sym g.0) h.1 g.1 e

word_apart : (k n l m : ℕ) (us vs : List Bool) → n < word_count k → m < word_count l →
    (natural (k + 1) ++ number_bits (2 ^ k) n) ++ us ≡ (natural (l + 1) ++ number_bits (2 ^ l) m) ++ vs → (k ≡ l) × (n ≡ m) × (us ≡ vs)
word_apart k n l m us vs h g e =
    let grouped : natural (k + 1) ++ (number_bits (2 ^ k) n ++ us) ≡ natural (l + 1) ++ (number_bits (2 ^ l) m ++ vs) =
    sym (append_assoc (natural (k + 1)) (number_bits (2 ^ k) n) us) ∙ e ∙ append_assoc (natural (l + 1)) (number_bits (2 ^ l) m) vs in
    let first = natural_apart (k + 1) (l + 1) (number_bits (2 ^ k) n ++ us) (number_bits (2 ^ l) m ++ vs) (omega arith) (omega arith) grouped in
    let same : k ≡ l = omega (arith, first.0) in
    let bits : number_bits (2 ^ k) n ++ us ≡ number_bits (2 ^ k) m ++ vs = first.1 ∙ ap (λ (w : ℕ). number_bits (2 ^ w) m ++ vs) (sym same) in
    let limit : m < word_count k = subst (λ (w : ℕ). m < word_count w) (sym same) g in
    let second = number_apart (2 ^ k) n m us vs h limit bits in
    (same, second.0, second.1)

-- nodes of one kind, whatever their children and bits
data SameKind : Node → Node → Type 0 where
  SameIden : SameKind node.Iden node.Iden
  SameUnitNode : SameKind node.UnitNode node.UnitNode
  SameInjl : (l j : ℕ) → SameKind (node.Injl l) (node.Injl j)
  SameInjr : (l j : ℕ) → SameKind (node.Injr l) (node.Injr j)
  SameTake : (l j : ℕ) → SameKind (node.Take l) (node.Take j)
  SameDrop : (l j : ℕ) → SameKind (node.Drop l) (node.Drop j)
  SameComp : (l j : ℕ) (r k' : ℕ) → SameKind (node.Comp l r) (node.Comp j k')
  SameCase : (l j : ℕ) (r k' : ℕ) → SameKind (node.Case l r) (node.Case j k')
  SamePair : (l j : ℕ) (r k' : ℕ) → SameKind (node.Pair l r) (node.Pair j k')
  SameHidden : (x y : List ℕ) → SameKind (node.Hidden x) (node.Hidden y)
  SameFail : (x y : List ℕ) → SameKind (node.Fail x) (node.Fail y)
  SameWitness : SameKind node.Witness node.Witness
  SameWord : (k k' : ℕ) (n n' : ℕ) → SameKind (node.Word k n) (node.Word k' n')

-- the kind's number, and where it is read off the first bits
kind_number : Node → ℕ
kind_number node.Iden = 8
kind_number node.UnitNode = 9
kind_number (node.Injl l) = 4
kind_number (node.Injr l) = 5
kind_number (node.Take l) = 6
kind_number (node.Drop l) = 7
kind_number (node.Comp l r) = 0
kind_number (node.Case l r) = 1
kind_number (node.Pair l r) = 2
kind_number (node.Hidden x) = 12
kind_number (node.Fail x) = 10
kind_number node.Witness = 14
kind_number (node.Word k n) = 16

kind_read : List Bool → ℕ
kind_read (true ∷ us) = 16
kind_read (false ∷ true ∷ true ∷ false ∷ us) = 12
kind_read (false ∷ true ∷ true ∷ true ∷ us) = 14
kind_read (false ∷ false ∷ false ∷ false ∷ false ∷ us) = 0
kind_read (false ∷ false ∷ false ∷ false ∷ true ∷ us) = 1
kind_read (false ∷ false ∷ false ∷ true ∷ false ∷ us) = 2
kind_read (false ∷ false ∷ true ∷ false ∷ false ∷ us) = 4
kind_read (false ∷ false ∷ true ∷ false ∷ true ∷ us) = 5
kind_read (false ∷ false ∷ true ∷ true ∷ false ∷ us) = 6
kind_read (false ∷ false ∷ true ∷ true ∷ true ∷ us) = 7
kind_read (false ∷ true ∷ false ∷ false ∷ false ∷ us) = 8
kind_read (false ∷ true ∷ false ∷ false ∷ true ∷ us) = 9
kind_read (false ∷ true ∷ false ∷ true ∷ false ∷ us) = 10
kind_read us = 17

kind_of_bits : (i : ℕ) (n : Node) (us : List Bool) → kind_read (node_bits i n ++ us) ≡ kind_number n
unfolding kind_read kind_number
kind_of_bits i node.Iden us = refl
kind_of_bits i node.UnitNode us = refl
kind_of_bits i (node.Injl l) us = refl
kind_of_bits i (node.Injr l) us = refl
kind_of_bits i (node.Take l) us = refl
kind_of_bits i (node.Drop l) us = refl
kind_of_bits i (node.Comp l r) us = refl
kind_of_bits i (node.Case l r) us = refl
kind_of_bits i (node.Pair l r) us = refl
kind_of_bits i (node.Hidden x) us = refl
kind_of_bits i (node.Fail x) us = refl
kind_of_bits i node.Witness us = refl
kind_of_bits i (node.Word k n) us = refl

same_kind : (n m : Node) → kind_number n ≡ kind_number m → SameKind n m
unfolding kind_number
same_kind node.Iden node.Iden e = SameIden
same_kind node.UnitNode node.UnitNode e = SameUnitNode
same_kind (node.Injl l) (node.Injl j) e = SameInjl l j
same_kind (node.Injr l) (node.Injr j) e = SameInjr l j
same_kind (node.Take l) (node.Take j) e = SameTake l j
same_kind (node.Drop l) (node.Drop j) e = SameDrop l j
same_kind (node.Comp l r) (node.Comp j k') e = SameComp l j r k'
same_kind (node.Case l r) (node.Case j k') e = SameCase l j r k'
same_kind (node.Pair l r) (node.Pair j k') e = SamePair l j r k'
same_kind (node.Hidden x) (node.Hidden y) e = SameHidden x y
same_kind (node.Fail x) (node.Fail y) e = SameFail x y
same_kind node.Witness node.Witness e = SameWitness
same_kind (node.Word k n) (node.Word k' n') e = SameWord k k' n n'
same_kind _ _ e = absurd (omega arith)

-- one node, and what follows
kind_apart : (i : ℕ) (n m : Node) (us vs : List Bool) → AreUnder i (children n) → AreUnder i (children m) → IsCarried n → IsCarried m →
    node_bits i n ++ us ≡ node_bits i m ++ vs → SameKind n m → (n ≡ m) × (us ≡ vs)
kind_apart i _ _ us vs h g c d e SameIden = (refl, cc)
kind_apart i _ _ us vs h g c d e SameUnitNode = (refl, cc)
kind_apart i _ _ us vs h g c d e SameWitness = (refl, cc)
kind_apart i _ _ us vs h g c d e (SameInjl l r) =
    let read = one_apart i l r us vs h.0 g.0 cc in
    (ap node.Injl read.0, read.1)
kind_apart i _ _ us vs h g c d e (SameInjr l r) =
    let read = one_apart i l r us vs h.0 g.0 cc in
    (ap node.Injr read.0, read.1)
kind_apart i _ _ us vs h g c d e (SameTake l r) =
    let read = one_apart i l r us vs h.0 g.0 cc in
    (ap node.Take read.0, read.1)
kind_apart i _ _ us vs h g c d e (SameDrop l r) =
    let read = one_apart i l r us vs h.0 g.0 cc in
    (ap node.Drop read.0, read.1)
kind_apart i _ _ us vs h g c d e (SameComp l j r k) =
    let read = two_apart i l r j k us vs h.0 h.1.0 g.0 g.1.0 cc in
    (ap (λ x. node.Comp x r) read.0 ∙ ap (node.Comp j) read.1, read.2)
kind_apart i _ _ us vs h g c d e (SameCase l j r k) =
    let read = two_apart i l r j k us vs h.0 h.1.0 g.0 g.1.0 cc in
    (ap (λ x. node.Case x r) read.0 ∙ ap (node.Case j) read.1, read.2)
kind_apart i _ _ us vs h g c d e (SamePair l j r k) =
    let read = two_apart i l r j k us vs h.0 h.1.0 g.0 g.1.0 cc in
    (ap (λ x. node.Pair x r) read.0 ∙ ap (node.Pair j) read.1, read.2)
kind_apart i _ _ us vs h g c d e (SameHidden x y) =
    let read = carried_apart 32 x y us vs c d cc in
    (ap node.Hidden read.0, read.1)
kind_apart i _ _ us vs h g c d e (SameFail x y) =
    let read = carried_apart 64 x y us vs c d cc in
    (ap node.Fail read.0, read.1)
kind_apart i _ _ us vs h g c d e (SameWord k l n m) =
    let read = word_apart k n l m us vs c.1 d.1 cc in
    (ap (λ x. node.Word x n) read.0 ∙ ap (node.Word l) read.1, read.2)

node_apart : (i : ℕ) (n m : Node) (us vs : List Bool) → AreUnder i (children n) → AreUnder i (children m) → IsCarried n → IsCarried m →
    node_bits i n ++ us ≡ node_bits i m ++ vs → (n ≡ m) × (us ≡ vs)
node_apart i n m us vs h g c d e =
    let number : kind_number n ≡ kind_number m = sym (kind_of_bits i n us) ∙ ap kind_read e ∙ kind_of_bits i m vs in
    kind_apart i n m us vs h g c d e (same_kind n m number)

-- a node that may follow a list has its children in it
follow_under : (before : List Node) (n : Node) → CanFollow before n → AreUnder (length before) (children n)
follow_under before n h =
    let all : take (length before) before ≡ before = take-length before in
    children_under before (length before) n (subst (λ (l : List Node). CanFollow l n) (sym all) h)

-- as many nodes after the same ones, and what follows
nodes_apart : (before : List Node) (i : ℕ) (ns ms : List Node) (us vs : List Bool) → i ≡ length before → length ns ≡ length ms → PlacedAfter before ns →
    PlacedAfter before ms → AreCarried ns → AreCarried ms → nodes_bits i ns ++ us ≡ nodes_bits i ms ++ vs → ns ≡ ms
nodes_apart before i [] [] us vs at count h g c d e = refl
nodes_apart before i [] (m ∷ ms) us vs at count h g c d e = absurd (omega arith)
nodes_apart before i (n ∷ ns) [] us vs at count h g c d e = absurd (omega arith)
nodes_apart before i (n ∷ ns) (m ∷ ms) us vs at count h g c d e =
    let grouped : node_bits i n ++ (nodes_bits (i + 1) ns ++ us) ≡ node_bits i m ++ (nodes_bits (i + 1) ms ++ vs) =
    sym (append_assoc (node_bits i n) (nodes_bits (i + 1) ns) us) ∙ e ∙ append_assoc (node_bits i m) (nodes_bits (i + 1) ms) vs in
    let under : AreUnder i (children n) = subst (λ (k : ℕ). AreUnder k (children n)) (sym at) (follow_under before n h.0) in
    let under' : AreUnder i (children m) = subst (λ (k : ℕ). AreUnder k (children m)) (sym at) (follow_under before m g.0) in
    let first = node_apart i n m (nodes_bits (i + 1) ns ++ us) (nodes_bits (i + 1) ms ++ vs) under under' c.0 d.0 grouped in
    let same : n ≡ m = first.0 in
    let next : i + 1 ≡ length (before ++ n ∷ []) = omega (arith, length-append before (n ∷ [])) in
    let placed : PlacedAfter (before ++ n ∷ []) ms = subst (λ (x : Node). PlacedAfter (before ++ x ∷ []) ms) (sym same) g.1 in
    let rest : ns ≡ ms = nodes_apart (before ++ n ∷ []) (i + 1) ns ms us vs next (omega arith) h.1 placed c.1 d.1 first.1 in
    cc

-- a program, and what follows
program_apart : (ns ms : List Node) (us vs : List Bool) → IsPlaced ns → IsPlaced ms → 0 < length ns → 0 < length ms → AreCarried ns → AreCarried ms →
    program_bits ns ++ us ≡ program_bits ms ++ vs → ns ≡ ms
program_apart ns ms us vs h g some some' c d e =
    let grouped : natural (length ns) ++ (nodes_bits 0 ns ++ us) ≡ natural (length ms) ++ (nodes_bits 0 ms ++ vs) =
    sym (append_assoc (natural (length ns)) (nodes_bits 0 ns) us) ∙ e ∙ append_assoc (natural (length ms)) (nodes_bits 0 ms) vs in
    let count = natural_apart (length ns) (length ms) (nodes_bits 0 ns ++ us) (nodes_bits 0 ms ++ vs) some some' grouped in
    nodes_apart [] 0 ns ms us vs refl count.0 h g c d count.1

pub one_list : (xs : List ℕ) (ns ms : List Node) → Spelled xs ns → Spelled xs ms → ns ≡ ms
one_list xs ns ms s t =
    program_apart ns ms (replicate s.padded.zeros false) (replicate t.padded.zeros false) s.placed t.placed s.rooted.1 t.rooted.1 s.carried t.carried
    (sym s.padded.same ∙ t.padded.same)

-- the bits of whole bytes, up to fewer than eight zeros, are those of one list of bytes
pub one_padding : (xs ys : List ℕ) (bits : List Bool) → AreBelow256 xs → AreBelow256 ys → IsPadded xs bits → IsPadded ys bits → xs ≡ ys
one_padding xs ys bits h g p q =
    let long : 8 * length xs ≡ length bits + p.zeros =
    sym (bytes_length xs) ∙ ap length p.same ∙ length-append bits (replicate p.zeros false) ∙ ap (λ k. length bits + k) (length-replicate p.zeros false) in
    let long' : 8 * length ys ≡ length bits + q.zeros =
    sym (bytes_length ys) ∙ ap length q.same ∙ length-append bits (replicate q.zeros false) ∙ ap (λ k. length bits + k) (length-replicate q.zeros false) in
    let few : p.zeros < 8 = p.few in
    let few' : q.zeros < 8 = q.few in
    let count : length xs ≡ length ys = omega (arith, long, long', few, few') in
    let zeros : p.zeros ≡ q.zeros = omega (arith, long, long', count) in
    let same : byte_bits xs ≡ byte_bits ys = p.same ∙ ap (λ k. bits ++ replicate k false) zeros ∙ sym q.same in
    (bytes_apart xs ys [] [] count h g (ap (λ (l : List Bool). l ++ []) same)).0

pub one_spelling : (xs ys : List ℕ) (ns : List Node) → AreBelow256 xs → AreBelow256 ys → Spelled xs ns → Spelled ys ns → xs ≡ ys
one_spelling xs ys ns h g s t = one_padding xs ys (program_bits ns) h g s.padded t.padded

-- streams
codes_apart : (ks : List Kind) (ws xs : List Value) (us vs : List Bool) → AreOf ws ks → AreOf xs ks → codes_of ws ++ us ≡ codes_of xs ++ vs → ws ≡ xs
codes_apart ks [] [] us vs h g e = refl
codes_apart [] [] (x ∷ xs) us vs h g e = elim g [ ]
codes_apart (k ∷ ks) [] xs us vs h g e = elim h [ ]
codes_apart [] (w ∷ ws) xs us vs h g e = elim h [ ]
codes_apart (k ∷ ks) (w ∷ ws) [] us vs h g e = elim g [ ]
codes_apart (k ∷ ks) (w ∷ ws) (x ∷ xs) us vs h g e =
    let grouped : code w ++ (codes_of ws ++ us) ≡ code x ++ (codes_of xs ++ vs) =
    sym (append_assoc (code w) (codes_of ws) us) ∙ e ∙ append_assoc (code x) (codes_of xs) vs in
    let first = code_apart k w x (codes_of ws ++ us) (codes_of xs ++ vs) h.0 g.0 grouped in
    let front : w ≡ x = first.0 in
    let rest : ws ≡ xs = codes_apart ks ws xs us vs h.1 g.1 first.1 in
    cc

pub one_stream : (xs : List ℕ) (ks : List Kind) (us vs : List Value) → IsStream xs ks us → IsStream xs ks vs → us ≡ vs
one_stream xs ks us vs s t =
    codes_apart ks us vs (replicate s.padded.zeros false) (replicate t.padded.zeros false) s.typed t.typed (sym s.padded.same ∙ t.padded.same)

pub one_stream_bytes : (xs ys : List ℕ) (ks : List Kind) (vs : List Value) → AreBelow256 xs → AreBelow256 ys → IsStream xs ks vs → IsStream ys ks vs → xs ≡ ys
one_stream_bytes xs ys ks vs h g s t = one_padding xs ys (codes_of vs) h g s.padded t.padded
