-- The comparisons compute their formulas.
use Rattle.std.proofs.Common.{◌≡◌, ℕ, ◌<◌, List, Bool, true, false, refl, ◌∙◌, arith, Some}
use Rattle.std.specs.Prelude.{nat_lt, nat_le, min, max}
use Rattle.simplicity.specs.Types.{Value, Pair, word_value, bit_value, word_count}
use Rattle.simplicity.specs.Terms.{Term, meaning, PairTerm}
use Rattle.simplicity.specs.Widths.{level_of}
use Rattle.jets.specs.Jet.{is_jet, sizes}
use Rattle.jet_terms.specs.Expansions.{source_of}
use Rattle.jet_terms.specs.Laws.{Gives, IsFormula}
use Rattle.simplicity.specs.Digits.{Digits, number, tree}
use Rattle.std.proofs.lemmas.Bool.{le-leb, lt-leb}
use Rattle.jet_terms.specs.Trees.{lt, le, least, greatest, median, ◌⨾◌, O, I, H}
use Rattle.jet_terms.proofs.Compare.{Less, less, more, lesses}
use Rattle.jet_terms.proofs.GateLaws.{less_gives}
use Rattle.jet_terms.proofs.Frame.{usual_level, args2, args3, at2, at3}
use Rattle.simplicity.proofs.Digits.{word_digits, same_word}
use Rattle.jets.specs.Jet as jet
use Rattle.jets.specs.Formula as formula

pub lt_tests : (k : ℕ) (ws : List Value) (a b : ℕ) → a < word_count k → b < word_count k → meaning (lt k) ws (Pair (word_value k a) (word_value k b)) ≡ Some (word_value 0 (formula.bit (nat_lt a b)))
lt_tests k ws a b h i =
    let x = word_digits k a h in
    let y = word_digits k b i in
    rw (x.2, y.2) (less_gives (lt k) ws (Pair (tree k x.0) (tree k y.0)) (number k x.0) (number k y.0) a b (lesses k ws x.0 y.0) x.1 y.1)

le_by : (k : ℕ) (ws : List Value) (a b : Digits k) (r : Bool) → meaning (lt k) ws (Pair (tree k b) (tree k a)) ≡ Some (bit_value r) → Less (number k b) (number k a) r
    → meaning (le k) ws (Pair (tree k a) (tree k b)) ≡ Some (word_value 0 (formula.bit (nat_le (number k a) (number k b))))
le_by k ws a b true g (less h) = rw g (rw (lt-leb (number k a) (number k b) h) refl)
le_by k ws a b false g (more h) = rw g (rw (le-leb (number k a) (number k b) h) refl)

pub le_tests : (k : ℕ) (ws : List Value) (a b : ℕ) → a < word_count k → b < word_count k → meaning (le k) ws (Pair (word_value k a) (word_value k b)) ≡ Some (word_value 0 (formula.bit (nat_le a b)))
le_tests k ws a b h i =
    let x = word_digits k a h in
    let y = word_digits k b i in
    let t = lesses k ws y.0 x.0 in
    rw (x.2, y.2) (le_by k ws x.0 y.0 t.answer t.gives t.law ∙ rw (x.1, y.1) refl)

-- a word that is one of the arguments
pub record Picks (t : Term) (ws : List Value) (v : Value) (k n : ℕ) : Type 0 where
  pub result : Digits k
  pub gives : meaning t ws v ≡ Some (tree k result)
  pub law : number k result ≡ n

min_by : (k : ℕ) (ws : List Value) (a b : Digits k) (r : Bool) → meaning (lt k) ws (Pair (tree k a) (tree k b)) ≡ Some (bit_value r) → Less (number k a) (number k b) r
    → Picks (least k) ws (Pair (tree k a) (tree k b)) k (min (number k a) (number k b))
min_by k ws a b true g (less h) = record { result = a; gives = rw g refl; law = omega (arith, h) }
min_by k ws a b false g (more h) = record { result = b; gives = rw g refl; law = omega (arith, h) }

max_by : (k : ℕ) (ws : List Value) (a b : Digits k) (r : Bool) → meaning (lt k) ws (Pair (tree k a) (tree k b)) ≡ Some (bit_value r) → Less (number k a) (number k b) r
    → Picks (greatest k) ws (Pair (tree k a) (tree k b)) k (max (number k a) (number k b))
max_by k ws a b true g (less h) = record { result = b; gives = rw g refl; law = omega (arith, h) }
max_by k ws a b false g (more h) = record { result = a; gives = rw g refl; law = omega (arith, h) }

pub mins : (k : ℕ) (ws : List Value) (a b : Digits k) → Picks (least k) ws (Pair (tree k a) (tree k b)) k (min (number k a) (number k b))
mins k ws a b = let t = lesses k ws a b in min_by k ws a b t.answer t.gives t.law

pub maxs : (k : ℕ) (ws : List Value) (a b : Digits k) → Picks (greatest k) ws (Pair (tree k a) (tree k b)) k (max (number k a) (number k b))
maxs k ws a b = let t = lesses k ws a b in max_by k ws a b t.answer t.gives t.law

picked : (t : Term) (ws : List Value) (v : Value) (k n m : ℕ) → Picks t ws v k n → n ≡ m → meaning t ws v ≡ Some (word_value k m)
picked t ws v k n m p e = p.gives ∙ same_word k m p.result (p.law ∙ e)

pub min_words : (k : ℕ) (ws : List Value) (a b : ℕ) → a < word_count k → b < word_count k → meaning (least k) ws (Pair (word_value k a) (word_value k b)) ≡ Some (word_value k (min a b))
min_words k ws a b h i =
    let x = word_digits k a h in
    let y = word_digits k b i in
    rw (x.2, y.2) (picked (least k) ws (Pair (tree k x.0) (tree k y.0)) k (min (number k x.0) (number k y.0)) (min a b) (mins k ws x.0 y.0) (rw (x.1, y.1) refl))

pub max_words : (k : ℕ) (ws : List Value) (a b : ℕ) → a < word_count k → b < word_count k → meaning (greatest k) ws (Pair (word_value k a) (word_value k b)) ≡ Some (word_value k (max a b))
max_words k ws a b h i =
    let x = word_digits k a h in
    let y = word_digits k b i in
    rw (x.2, y.2) (picked (greatest k) ws (Pair (tree k x.0) (tree k y.0)) k (max (number k x.0) (number k y.0)) (max a b) (maxs k ws x.0 y.0) (rw (x.1, y.1) refl))

-- over any four parts, so that no part opens
median_of : (least greatest : Term) (ws : List Value) (a b c p q r s : Value) → meaning least ws (Pair a b) ≡ Some p → meaning greatest ws (Pair a b) ≡ Some q
    → meaning least ws (Pair q c) ≡ Some r → meaning greatest ws (Pair p r) ≡ Some s
    → meaning (PairTerm (PairTerm (O H) (I (O H)) ⨾ least) (PairTerm (PairTerm (O H) (I (O H)) ⨾ greatest) (I (I H)) ⨾ least) ⨾ greatest) ws (Pair a (Pair b c)) ≡ Some s
median_of least greatest ws a b c p q r s e f g h = rw e (rw f (rw g (rw h refl)))

pub median_words : (k : ℕ) (ws : List Value) (a b c : ℕ) → a < word_count k → b < word_count k → c < word_count k
    → meaning (median k) ws (Pair (word_value k a) (Pair (word_value k b) (word_value k c))) ≡ Some (word_value k (max (min a b) (min (max a b) c)))
median_words k ws a b c h i j =
    median_of (least k) (greatest k) ws (word_value k a) (word_value k b) (word_value k c) (word_value k (min a b)) (word_value k (max a b)) (word_value k (min (max a b) c)) (word_value k (max (min a b) (min (max a b) c)))
    (min_words k ws a b h i) (max_words k ws a b h i) (min_words k ws (max a b) c (omega (arith, h, i)) j) (max_words k ws (min a b) (min (max a b) c) (omega (arith, h, i)) (omega (arith, h, i, j)))

pub lt_law : IsFormula jet.Lt
lt_law n w is xs ws all =
    args2 (jet.Number n) (jet.Number n) (Gives jet.Lt n w ws)
    (at2 lt (λ n k a b. Some (word_value 0 (formula.bit (nat_lt a b)))) lt_tests n (level_of n) (usual_level n w is) (source_of jet.Lt n w) ws) xs all

pub le_law : IsFormula jet.Le
le_law n w is xs ws all =
    args2 (jet.Number n) (jet.Number n) (Gives jet.Le n w ws)
    (at2 le (λ n k a b. Some (word_value 0 (formula.bit (nat_le a b)))) le_tests n (level_of n) (usual_level n w is) (source_of jet.Le n w) ws) xs all

pub min_law : IsFormula jet.Min
min_law n w is xs ws all =
    args2 (jet.Number n) (jet.Number n) (Gives jet.Min n w ws)
    (at2 least (λ n k a b. Some (word_value k (min a b))) min_words n (level_of n) (usual_level n w is) (source_of jet.Min n w) ws) xs all

pub max_law : IsFormula jet.Max
max_law n w is xs ws all =
    args2 (jet.Number n) (jet.Number n) (Gives jet.Max n w ws)
    (at2 greatest (λ n k a b. Some (word_value k (max a b))) max_words n (level_of n) (usual_level n w is) (source_of jet.Max n w) ws) xs all

pub median_law : IsFormula jet.Median
median_law n w is xs ws all =
    args3 (jet.Number n) (jet.Number n) (jet.Number n) (Gives jet.Median n w ws)
    (at3 median (λ n k a b c. Some (word_value k (max (min a b) (min (max a b) c)))) median_words n (level_of n) (usual_level n w is) (source_of jet.Median n w) ws) xs all
