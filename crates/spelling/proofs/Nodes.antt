-- A node is read exactly where its bits stand, and is in its place exactly where it may follow.
use Rattle.std.proofs.Common.{◌≡◌, refl, ap, sym, subst, ◌∙◌, ℕ, zero, suc, ◌+◌, ◌-◌, ◌^◌, ◌<◌, ◌≤◌, Bool, true, false, nat_le, List, [], ◌∷◌, ◌++◌, length, arith, append_assoc, leb-true, le-leb}
use Rattle.simplicity.specs.Types.{word_count}
use Rattle.simplicity.specs.Nodes as node
use Rattle.simplicity.specs.Nodes.{AreUnder, Node, children, CanFollow, IsShown, AreCaseSides}
use Rattle.simplicity.specs.Carried.{IsCarried, AreBytes, AreBelow256}
use Rattle.simplicity.specs.Spelling.{number_bits, byte_bits, natural, node_bits}
use Rattle.spelling.specs.Reading.{Got, Refusal, BadDistance, WordTooWide, then, give, give_if, number, read_natural, read_bytes, read_child, one_child, two_children, read_level, read_word, carried, read_node}
use Rattle.spelling.proofs.Basics.{got_apart, then_got, then_gets, cond_got, give_gets}
use Rattle.spelling.proofs.Numbers.{number_gets, number_only, natural_gets, natural_stands}

-- a test of a value that was got held, and the value is that one
pub given : {A : Type 0} (t : Bool) (otherwise : Refusal) (a b : A) (at end : ℕ) (bits rest : List Bool) → give_if t otherwise a at bits ≡ Got b end rest →
    (t ≡ true) × (a ≡ b) × (at ≡ end) × (bits ≡ rest)
given t otherwise a b at end bits rest e =
    let test = cond_got t (Got a at bits) otherwise b end rest e in
    let same = got_apart a b at end bits rest test.1 in
    (test.0, same.0, same.1, same.2)

-- a child
child_gets : (i l at : ℕ) (rest : List Bool) → l < i → i < 2 ^ 32 → read_child i at (natural (i - l) ++ rest) ≡ Got l (at + length (natural (i - l))) rest
child_gets i l at rest h few =
    let end : ℕ = at + length (natural (i - l)) in
    let back : i - (i - l) ≡ l = omega arith in
    then_gets (read_natural at (natural (i - l) ++ rest)) (λ d. give_if (nat_le d i) (BadDistance i) (i - d)) (i - l) (at + length (natural (i - l))) rest
    (Got l (at + length (natural (i - l))) rest) (natural_gets (i - l) at rest (omega arith) (omega arith))
    (give_gets (nat_le (i - l) i) (BadDistance i) (i - (i - l)) (at + length (natural (i - l))) rest (le-leb (i - l) i (omega arith)) ∙
    ap (λ k. Got k (at + length (natural (i - l))) rest) back)

child_only : (i l at end : ℕ) (bits rest : List Bool) → read_child i at bits ≡ Got l end rest → (l < i) × (bits ≡ natural (i - l) ++ rest)
child_only i l at end bits rest e =
    let got = then_got (read_natural at bits) (λ d. give_if (nat_le d i) (BadDistance i) (i - d)) l end rest e in
    let d : ℕ = got.0 in
    let test = given (nat_le got.0 i) (BadDistance i) (i - got.0) l got.1 end got.2 rest got.4 in
    let stands = natural_stands got.0 at got.1 bits got.2 got.3 in
    let some : 0 < d = stands.0 in
    let few : d ≤ i = leb-true got.0 i test.0 in
    let is : i - d ≡ l = test.1 in
    let back : d ≡ i - l = omega arith in
    (omega (arith, some, few, is), stands.2 ∙ ap (λ k. natural k ++ got.2) back ∙ ap (λ r. natural (i - l) ++ r) test.3)

-- one child, two children
one_gets : (i l at : ℕ) (make : ℕ → Node) (rest : List Bool) → l < i → i < 2 ^ 32 → (end : ℕ) × (one_child i make at (natural (i - l) ++ rest) ≡ Got (make l) end rest)
one_gets i l at make rest h few =
    let end : ℕ = at + length (natural (i - l)) in
    (end, then_gets (read_child i at (natural (i - l) ++ rest)) (λ l'. give (make l')) l end rest (Got (make l) end rest) (child_gets i l at rest h few) refl)

one_only : (i at end : ℕ) (make : ℕ → Node) (n : Node) (bits rest : List Bool) → one_child i make at bits ≡ Got n end rest →
    (l : ℕ) × (make l ≡ n) × (l < i) × (bits ≡ natural (i - l) ++ rest)
one_only i at end make n bits rest e =
    let got = then_got (read_child i at bits) (λ l'. give (make l')) n end rest e in
    let same = got_apart (make got.0) n got.1 end got.2 rest got.4 in
    let inner = child_only i got.0 at got.1 bits got.2 got.3 in
    (got.0, same.0, inner.0, inner.1 ∙ ap (λ r. natural (i - got.0) ++ r) same.2)

two_gets : (i l r at : ℕ) (make : ℕ → ℕ → Node) (rest : List Bool) → l < i → r < i → i < 2 ^ 32 →
    (end : ℕ) × (two_children i make at ((natural (i - l) ++ natural (i - r)) ++ rest) ≡ Got (make l r) end rest)
two_gets i l r at make rest h g few =
    let mid : ℕ = at + length (natural (i - l)) in
    let second = one_gets i r mid (make l) rest g few in
    let grouped : (natural (i - l) ++ natural (i - r)) ++ rest ≡ natural (i - l) ++ (natural (i - r) ++ rest) = append_assoc (natural (i - l)) (natural (i - r)) rest in (
      second.0,
      ap (two_children i make at) grouped ∙
          then_gets (read_child i at (natural (i - l) ++ (natural (i - r) ++ rest))) (λ l' at' bits'. one_child i (make l') at' bits') l mid (natural (i - r) ++ rest)
          (Got (make l r) second.0 rest) (child_gets i l at (natural (i - r) ++ rest) h few) second.1,
    )

two_only : (i at end : ℕ) (make : ℕ → ℕ → Node) (n : Node) (bits rest : List Bool) → two_children i make at bits ≡ Got n end rest →
    (l : ℕ) × (r : ℕ) × (make l r ≡ n) × (l < i) × (r < i) × (bits ≡ (natural (i - l) ++ natural (i - r)) ++ rest)
two_only i at end make n bits rest e =
    let got = then_got (read_child i at bits) (λ l' at' bits'. one_child i (make l') at' bits') n end rest e in
    let first = child_only i got.0 at got.1 bits got.2 got.3 in
    let second = one_only i got.1 end (make got.0) n got.2 rest got.4 in (
      got.0,
      second.0,
      second.1,
      first.0,
      second.2,
      first.1 ∙ ap (λ u. natural (i - got.0) ++ u) second.3 ∙ sym (append_assoc (natural (i - got.0)) (natural (i - second.0)) rest),
    )

-- bytes
bytes_gets : (bs : List ℕ) (at : ℕ) (rest : List Bool) → AreBelow256 bs → (end : ℕ) × (read_bytes (length bs) at (byte_bits bs ++ rest) ≡ Got bs end rest)
bytes_gets [] at rest h = (at, refl)
bytes_gets (b ∷ bs) at rest h =
    let more = bytes_gets bs (at + 8) rest h.1 in
    let grouped : (number_bits 8 b ++ byte_bits bs) ++ rest ≡ number_bits 8 b ++ (byte_bits bs ++ rest) = append_assoc (number_bits 8 b) (byte_bits bs) rest in (
      more.0,
      ap (read_bytes (length (b ∷ bs)) at) grouped ∙
          then_gets (number 8 at (number_bits 8 b ++ (byte_bits bs ++ rest))) (λ b' at' bits'. then (read_bytes (length bs) at' bits') (λ bs'. give (b' ∷ bs'))) b (at + 8) (byte_bits bs ++ rest)
          (Got (b ∷ bs) more.0 rest) (number_gets 8 b at (byte_bits bs ++ rest) h.0)
          (then_gets (read_bytes (length bs) (at + 8) (byte_bits bs ++ rest)) (λ bs'. give (b ∷ bs')) bs more.0 rest (Got (b ∷ bs) more.0 rest) more.1 refl),
    )

bytes_only : (n at end : ℕ) (bs : List ℕ) (bits rest : List Bool) → read_bytes n at bits ≡ Got bs end rest → AreBytes n bs × (bits ≡ byte_bits bs ++ rest)
bytes_only zero at end bs bits rest e =
    let same = got_apart [] bs at end bits rest e in
    (subst (λ l. AreBytes 0 l) same.0 (refl, tt), same.2 ∙ ap (λ l. byte_bits l ++ rest) same.0)
bytes_only (suc n) at end bs bits rest e =
    let got = then_got (number 8 at bits) (λ b' at' bits'. then (read_bytes n at' bits') (λ bs'. give (b' ∷ bs'))) bs end rest e in
    let b : ℕ = got.0 in
    let more = then_got (read_bytes n got.1 got.2) (λ bs'. give (b ∷ bs')) bs end rest got.4 in
    let last = got_apart (b ∷ more.0) bs more.1 end more.2 rest more.4 in
    let first = number_only 8 at b got.1 bits got.2 got.3 in
    let inner = bytes_only n got.1 more.1 more.0 got.2 more.2 more.3 in
    let fits : AreBytes (suc n) (b ∷ more.0) = (ap suc inner.0.0, (first.0, inner.0.1)) in
    let stands : bits ≡ byte_bits (b ∷ more.0) ++ rest =
    first.1 ∙ ap (λ u. number_bits 8 b ++ u) (inner.1 ∙ ap (λ u. byte_bits more.0 ++ u) last.2) ∙ sym (append_assoc (number_bits 8 b) (byte_bits more.0) rest) in
    (subst (λ l. AreBytes (suc n) l) last.0 fits, stands ∙ ap (λ l. byte_bits l ++ rest) last.0)

carried_gets : (n at : ℕ) (make : List ℕ → Node) (bs : List ℕ) (rest : List Bool) → AreBytes n bs → (end : ℕ) × (carried n make at (byte_bits bs ++ rest) ≡ Got (make bs) end rest)
carried_gets n at make bs rest h =
    let got = bytes_gets bs at rest h.1 in (
      got.0,
      then_gets (read_bytes n at (byte_bits bs ++ rest)) (λ bs'. give (make bs')) bs got.0 rest (Got (make bs) got.0 rest)
          (ap (λ k. read_bytes k at (byte_bits bs ++ rest)) (sym h.0) ∙ got.1) refl,
    )

carried_only : (n at end : ℕ) (make : List ℕ → Node) (m : Node) (bits rest : List Bool) → carried n make at bits ≡ Got m end rest →
    (bs : List ℕ) × (make bs ≡ m) × AreBytes n bs × (bits ≡ byte_bits bs ++ rest)
carried_only n at end make m bits rest e =
    let got = then_got (read_bytes n at bits) (λ bs'. give (make bs')) m end rest e in
    let same = got_apart (make got.0) m got.1 end got.2 rest got.4 in
    let inner = bytes_only n at got.1 got.0 bits got.2 got.3 in
    (got.0, same.0, inner.0, inner.1 ∙ ap (λ u. byte_bits got.0 ++ u) same.2)

-- words
word_gets : (i k n at : ℕ) (rest : List Bool) → k ≤ 8 → n < word_count k → (end : ℕ) × (read_word i at ((natural (k + 1) ++ number_bits (2 ^ k) n) ++ rest) ≡ Got (node.Word k n) end rest)
word_gets i k n at rest h g =
    let mid : ℕ = at + length (natural (k + 1)) in
    let bits : List Bool = number_bits (2 ^ k) n ++ rest in
    let back : (k + 1) - 1 ≡ k = omega arith in
    let grouped : (natural (k + 1) ++ number_bits (2 ^ k) n) ++ rest ≡ natural (k + 1) ++ (number_bits (2 ^ k) n ++ rest) = append_assoc (natural (k + 1)) (number_bits (2 ^ k) n) rest in
    let level : read_level i at (natural (k + 1) ++ bits) ≡ Got k mid bits =
    then_gets (read_natural at (natural (k + 1) ++ bits)) (λ d. give_if (nat_le (d - 1) 8) (WordTooWide i) (d - 1)) (k + 1) mid bits (Got k mid bits)
    (natural_gets (k + 1) at bits (omega arith) (omega arith))
    (give_gets (nat_le ((k + 1) - 1) 8) (WordTooWide i) ((k + 1) - 1) mid bits (le-leb ((k + 1) - 1) 8 (omega arith)) ∙ ap (λ j. Got j mid bits) back) in (
      mid + 2 ^ k,
      ap (read_word i at) grouped ∙
          then_gets (read_level i at (natural (k + 1) ++ bits)) (λ k' at' bits'. then (number (2 ^ k') at' bits') (λ m. give (node.Word k' m))) k mid bits
          (Got (node.Word k n) (mid + 2 ^ k) rest) level
          (then_gets (number (2 ^ k) mid bits) (λ m. give (node.Word k m)) n (mid + 2 ^ k) rest (Got (node.Word k n) (mid + 2 ^ k) rest) (number_gets (2 ^ k) n mid rest g) refl),
    )

pub level_only : (i k at end : ℕ) (bits rest : List Bool) → read_level i at bits ≡ Got k end rest → (k ≤ 8) × (bits ≡ natural (k + 1) ++ rest)
level_only i k at end bits rest e =
    let got = then_got (read_natural at bits) (λ d. give_if (nat_le (d - 1) 8) (WordTooWide i) (d - 1)) k end rest e in
    let d : ℕ = got.0 in
    let test = given (nat_le (got.0 - 1) 8) (WordTooWide i) (got.0 - 1) k got.1 end got.2 rest got.4 in
    let stands = natural_stands got.0 at got.1 bits got.2 got.3 in
    let some : 0 < d = stands.0 in
    let few : d - 1 ≤ 8 = leb-true (got.0 - 1) 8 test.0 in
    let is : d - 1 ≡ k = test.1 in
    let back : d ≡ k + 1 = omega arith in
    (omega (arith, few, is), stands.2 ∙ ap (λ j. natural j ++ got.2) back ∙ ap (λ r. natural (k + 1) ++ r) test.3)

word_only : (i at end : ℕ) (m : Node) (bits rest : List Bool) → read_word i at bits ≡ Got m end rest →
    (k : ℕ) × (n : ℕ) × (node.Word k n ≡ m) × (k ≤ 8) × (n < word_count k) × (bits ≡ (natural (k + 1) ++ number_bits (2 ^ k) n) ++ rest)
word_only i at end m bits rest e =
    let got = then_got (read_level i at bits) (λ k' at' bits'. then (number (2 ^ k') at' bits') (λ n'. give (node.Word k' n'))) m end rest e in
    let k : ℕ = got.0 in
    let more = then_got (number (2 ^ k) got.1 got.2) (λ n'. give (node.Word k n')) m end rest got.4 in
    let last = got_apart (node.Word k more.0) m more.1 end more.2 rest more.4 in
    let first = level_only i k at got.1 bits got.2 got.3 in
    let second = number_only (2 ^ k) got.1 more.0 more.1 got.2 more.2 more.3 in (
      k,
      more.0,
      last.0,
      first.0,
      second.0,
      first.1 ∙ ap (λ u. natural (k + 1) ++ u) (second.1 ∙ ap (λ u. number_bits (2 ^ k) more.0 ++ u) last.2) ∙ sym (append_assoc (natural (k + 1)) (number_bits (2 ^ k) more.0) rest),
    )

-- a node whose fields fit is read where it stands
pub node_gets : (i : ℕ) (n : Node) (at : ℕ) (rest : List Bool) → AreUnder i (children n) → IsCarried n → i < 2 ^ 32 → (end : ℕ) × (read_node i at (node_bits i n ++ rest) ≡ Got n end rest)
node_gets i node.Iden at rest h c few = (at + 5, refl)
node_gets i node.UnitNode at rest h c few = (at + 5, refl)
node_gets i node.Witness at rest h c few = (at + 4, refl)
node_gets i (node.Injl l) at rest h c few = one_gets i l (at + 5) node.Injl rest h.0 few
node_gets i (node.Injr l) at rest h c few = one_gets i l (at + 5) node.Injr rest h.0 few
node_gets i (node.Take l) at rest h c few = one_gets i l (at + 5) node.Take rest h.0 few
node_gets i (node.Drop l) at rest h c few = one_gets i l (at + 5) node.Drop rest h.0 few
node_gets i (node.Comp l r) at rest h c few = two_gets i l r (at + 5) node.Comp rest h.0 h.1.0 few
node_gets i (node.Case l r) at rest h c few = two_gets i l r (at + 5) node.Case rest h.0 h.1.0 few
node_gets i (node.Pair l r) at rest h c few = two_gets i l r (at + 5) node.Pair rest h.0 h.1.0 few
node_gets i (node.Hidden x) at rest h c few = carried_gets 32 (at + 4) node.Hidden x rest c
node_gets i (node.Fail x) at rest h c few = carried_gets 64 (at + 5) node.Fail x rest c
node_gets i (node.Word k n) at rest h c few = word_gets i k n (at + 2) rest c.0 c.1

-- a node that was read stands there, and its fields fit
pub record Stands (i : ℕ) (bits rest : List Bool) (n : Node) : Type 0 where
  pub under : AreUnder i (children n)
  pub fits : IsCarried n
  pub bits_are : bits ≡ node_bits i n ++ rest

pub node_only : (i at end : ℕ) (bits rest : List Bool) (n : Node) → read_node i at bits ≡ Got n end rest → Stands i bits rest n
node_only i at end (false ∷ false ∷ false ∷ false ∷ false ∷ bits) rest n e =
    let got = two_only i (at + 5) end node.Comp n bits rest e in
    subst (λ m. Stands i (false ∷ false ∷ false ∷ false ∷ false ∷ bits) rest m) got.2
    (record { under = (got.3, (got.4, tt)); fits = tt; bits_are = ap (λ u. false ∷ false ∷ false ∷ false ∷ false ∷ u) got.5 })
node_only i at end (false ∷ false ∷ false ∷ false ∷ true ∷ bits) rest n e =
    let got = two_only i (at + 5) end node.Case n bits rest e in
    subst (λ m. Stands i (false ∷ false ∷ false ∷ false ∷ true ∷ bits) rest m) got.2
    (record { under = (got.3, (got.4, tt)); fits = tt; bits_are = ap (λ u. false ∷ false ∷ false ∷ false ∷ true ∷ u) got.5 })
node_only i at end (false ∷ false ∷ false ∷ true ∷ false ∷ bits) rest n e =
    let got = two_only i (at + 5) end node.Pair n bits rest e in
    subst (λ m. Stands i (false ∷ false ∷ false ∷ true ∷ false ∷ bits) rest m) got.2
    (record { under = (got.3, (got.4, tt)); fits = tt; bits_are = ap (λ u. false ∷ false ∷ false ∷ true ∷ false ∷ u) got.5 })
node_only i at end (false ∷ false ∷ true ∷ false ∷ false ∷ bits) rest n e =
    let got = one_only i (at + 5) end node.Injl n bits rest e in
    subst (λ m. Stands i (false ∷ false ∷ true ∷ false ∷ false ∷ bits) rest m) got.1
    (record { under = (got.2, tt); fits = tt; bits_are = ap (λ u. false ∷ false ∷ true ∷ false ∷ false ∷ u) got.3 })
node_only i at end (false ∷ false ∷ true ∷ false ∷ true ∷ bits) rest n e =
    let got = one_only i (at + 5) end node.Injr n bits rest e in
    subst (λ m. Stands i (false ∷ false ∷ true ∷ false ∷ true ∷ bits) rest m) got.1
    (record { under = (got.2, tt); fits = tt; bits_are = ap (λ u. false ∷ false ∷ true ∷ false ∷ true ∷ u) got.3 })
node_only i at end (false ∷ false ∷ true ∷ true ∷ false ∷ bits) rest n e =
    let got = one_only i (at + 5) end node.Take n bits rest e in
    subst (λ m. Stands i (false ∷ false ∷ true ∷ true ∷ false ∷ bits) rest m) got.1
    (record { under = (got.2, tt); fits = tt; bits_are = ap (λ u. false ∷ false ∷ true ∷ true ∷ false ∷ u) got.3 })
node_only i at end (false ∷ false ∷ true ∷ true ∷ true ∷ bits) rest n e =
    let got = one_only i (at + 5) end node.Drop n bits rest e in
    subst (λ m. Stands i (false ∷ false ∷ true ∷ true ∷ true ∷ bits) rest m) got.1
    (record { under = (got.2, tt); fits = tt; bits_are = ap (λ u. false ∷ false ∷ true ∷ true ∷ true ∷ u) got.3 })
node_only i at end (false ∷ true ∷ false ∷ false ∷ false ∷ bits) rest n e =
    let same = got_apart node.Iden n (at + 5) end bits rest e in
    subst (λ m. Stands i (false ∷ true ∷ false ∷ false ∷ false ∷ bits) rest m) same.0
    (record { under = tt; fits = tt; bits_are = ap (λ u. false ∷ true ∷ false ∷ false ∷ false ∷ u) same.2 })
node_only i at end (false ∷ true ∷ false ∷ false ∷ true ∷ bits) rest n e =
    let same = got_apart node.UnitNode n (at + 5) end bits rest e in
    subst (λ m. Stands i (false ∷ true ∷ false ∷ false ∷ true ∷ bits) rest m) same.0
    (record { under = tt; fits = tt; bits_are = ap (λ u. false ∷ true ∷ false ∷ false ∷ true ∷ u) same.2 })
node_only i at end (false ∷ true ∷ false ∷ true ∷ false ∷ bits) rest n e =
    let got = carried_only 64 (at + 5) end node.Fail n bits rest e in
    subst (λ m. Stands i (false ∷ true ∷ false ∷ true ∷ false ∷ bits) rest m) got.1
    (record { under = tt; fits = got.2; bits_are = ap (λ u. false ∷ true ∷ false ∷ true ∷ false ∷ u) got.3 })
node_only i at end (false ∷ true ∷ true ∷ false ∷ bits) rest n e =
    let got = carried_only 32 (at + 4) end node.Hidden n bits rest e in
    subst (λ m. Stands i (false ∷ true ∷ true ∷ false ∷ bits) rest m) got.1
    (record { under = tt; fits = got.2; bits_are = ap (λ u. false ∷ true ∷ true ∷ false ∷ u) got.3 })
node_only i at end (false ∷ true ∷ true ∷ true ∷ bits) rest n e =
    let same = got_apart node.Witness n (at + 4) end bits rest e in
    subst (λ m. Stands i (false ∷ true ∷ true ∷ true ∷ bits) rest m) same.0
    (record { under = tt; fits = tt; bits_are = ap (λ u. false ∷ true ∷ true ∷ true ∷ u) same.2 })
node_only i at end (true ∷ false ∷ bits) rest n e =
    let got = word_only i (at + 2) end n bits rest e in
    subst (λ m. Stands i (true ∷ false ∷ bits) rest m) got.2
    (record { under = tt; fits = (got.3, got.4); bits_are = ap (λ u. true ∷ false ∷ u) got.5 })
node_only i at end _ rest n e = absurd (cc)
