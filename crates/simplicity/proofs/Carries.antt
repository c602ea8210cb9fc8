-- Whether what a node carries fits its field, by computing.
use Rattle.std.proofs.Common.{◌≡◌, ℕ, ◌<◌, ◌≤◌, Bool, true, false, ◌&&◌, List, [], ◌∷◌, length, nat_eq, nat_lt, nat_le, refl, arith}
use Rattle.std.proofs.lemmas.Bool.Decides.{nat_tests}
use Rattle.std.specs.List.{list_all}
use Rattle.simplicity.specs.Types.{word_count}
use Rattle.simplicity.specs.Nodes as node
use Rattle.simplicity.specs.Nodes.{Node}
use Rattle.simplicity.specs.Carried.{AreBelow256, AreBytes, IsCarried, AreCarried}

abbrev pub carries : Node → Bool
carries (node.Hidden h) = nat_eq (length h) 32 && list_all (λ b. nat_lt b 256) h
carries (node.Fail e) = nat_eq (length e) 64 && list_all (λ b. nat_lt b 256) e
carries (node.Word k n) = nat_le k 8 && nat_lt n (word_count k)
carries _ = true

both : (a b : Bool) → (a && b) ≡ true → (a ≡ true) × (b ≡ true)
both true b e = (refl, e)
both false b e = cc

bytes_by : (bs : List ℕ) → list_all (λ b. nat_lt b 256) bs ≡ true → AreBelow256 bs
bytes_by [] e = tt
bytes_by (b ∷ bs) e =
    let p : (nat_lt b 256 ≡ true) × (list_all (λ c. nat_lt c 256) bs ≡ true) = both (nat_lt b 256) (list_all (λ c. nat_lt c 256) bs) e in
    (below p.0, bytes_by bs p.1)
  where
    below : nat_lt b 256 ≡ true → b < 256
    below test = grind (arith, nat_tests)

sized_by : (n : ℕ) (bs : List ℕ) → (nat_eq (length bs) n && list_all (λ b. nat_lt b 256) bs) ≡ true → AreBytes n bs
sized_by n bs e =
    let p : (nat_eq (length bs) n ≡ true) × (list_all (λ c. nat_lt c 256) bs ≡ true) = both (nat_eq (length bs) n) (list_all (λ c. nat_lt c 256) bs) e in
    (same p.0, bytes_by bs p.1)
  where
    same : nat_eq (length bs) n ≡ true → length bs ≡ n
    same test = grind (arith, nat_tests)

word_by : (k n : ℕ) → (nat_le k 8 && nat_lt n (word_count k)) ≡ true → (k ≤ 8) × (n < word_count k)
word_by k n e = fits (both (nat_le k 8) (nat_lt n (word_count k)) e)
  where
    fits : (nat_le k 8 ≡ true) × (nat_lt n (word_count k) ≡ true) → (k ≤ 8) × (n < word_count k)
    fits p = (grind (arith, nat_tests, p.0), grind (arith, nat_tests, p.1))

node_by : (n : Node) → carries n ≡ true → IsCarried n
node_by (node.Hidden h) e = sized_by 32 h e
node_by (node.Fail b) e = sized_by 64 b e
node_by (node.Word k n) e = word_by k n e
node_by node.Iden e = tt
node_by node.UnitNode e = tt
node_by (node.Injl i) e = tt
node_by (node.Injr i) e = tt
node_by (node.Take i) e = tt
node_by (node.Drop i) e = tt
node_by (node.Comp i j) e = tt
node_by (node.Case i j) e = tt
node_by (node.Pair i j) e = tt
node_by node.Witness e = tt

pub carried_by : (ns : List Node) → list_all carries ns ≡ true → AreCarried ns
carried_by [] e = tt
carried_by (n ∷ ns) e =
    let p : (carries n ≡ true) × (list_all carries ns ≡ true) = both (carries n) (list_all carries ns) e in
    (node_by n p.0, carried_by ns p.1)
