-- What a program is accepted as is one; words are terms; an ordered list's nodes are in their places.
use Rattle.std.proofs.Common.{◌≡◌, refl, ap, ◌∙◌, ℕ, zero, suc, ◌+◌, ◌/◌, ◌%◌, ◌<◌, Bool, true, false, List, length, Some, arith}
use Rattle.std.specs.Prelude.{slice_get}
use Rattle.std.specs.List.{range_with_len}
use Rattle.simplicity.specs.Types.{Value, is_odd, word_value, word_count, bit_value}
use Rattle.simplicity.specs.Terms.{Answer, meaning, paired}
use Rattle.simplicity.specs.Typing.{Typing, Arrow}
use Rattle.simplicity.specs.Roots.{root, pair_root, bit_root, word_root, bit_term, word_term}
use Rattle.simplicity.specs.Laws.{AcceptedAsOne, WordsAreTerms, OrderPlaces}
use Rattle.simplicity.proofs.Below.{least_one}
use Rattle.simplicity.proofs.Spell.{one_list, one_stream}

pub accepted_as_one : AcceptedAsOne
accepted_as_one = record {
  list = λ program stream r ns ms ts us v w a b. one_list program ns ms a.spelled b.spelled;
  typing = λ program stream r ns ts us v w a b. least_one ns r ts us a.canonical.least b.canonical.least;
  witness = λ program stream r ns ts v w a b. one_stream stream (Rattle.simplicity.specs.Typing.witness_targets ns ts) v w a.values b.values;
}

bit_same : (b : Bool) → bit_root b ≡ root (bit_term b)
bit_same false = refl
bit_same true = refl

word_same : (k n : ℕ) → word_root k n ≡ root (word_term k n)
word_same zero n = bit_same (is_odd n)
word_same (suc k) n =
    ap (λ r. pair_root r (word_root k (n % word_count k))) (word_same k (n / word_count k))
    ∙ ap (pair_root (root (word_term k (n / word_count k)))) (word_same k (n % word_count k))

bit_means : (b : Bool) (w : List Value) (v : Value) → Some (bit_value b) ≡ meaning (bit_term b) w v
bit_means false w v = refl
bit_means true w v = refl

word_means : (k n : ℕ) (w : List Value) (v : Value) → Some (word_value k n) ≡ meaning (word_term k n) w v
word_means zero n w v = bit_means (is_odd n) w v
word_means (suc k) n w v =
    ap (λ (a : Answer). paired a (Some (word_value k (n % word_count k)))) (word_means k (n / word_count k) w v)
    ∙ ap (paired (meaning (word_term k (n / word_count k)) w v)) (word_means k (n % word_count k) w v)

pub words_are_terms : WordsAreTerms
words_are_terms = record { same_root = word_same; same_meaning = word_means }

range_at : (low n i : ℕ) → i < n → slice_get (range_with_len low n) i ≡ Some (low + i)
range_at low zero i h = absurd (omega arith)
range_at low (suc n) zero h = let same : low ≡ low + 0 = omega arith in ap Some same
range_at low (suc n) (suc i) h =
    let same : (low + 1) + i ≡ low + suc i = omega arith in
    range_at (low + 1) n i (omega arith) ∙ ap Some same

pub order_places : OrderPlaces
order_places ns i ordered h =
    let same : 0 + i ≡ i = omega arith in
    ap (λ (l : List ℕ). slice_get l i) ordered ∙ range_at 0 (length ns) i h ∙ ap Some same
