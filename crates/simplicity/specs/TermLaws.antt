-- Laws of the definitions that terms are made with: tuples, arrows, words as digits, loops (this project's own).
use Rattle.std.specs.Prelude.{◌≡◌, ℕ, suc, ◌+◌, ◌-◌, ◌/◌, ◌<◌, List, ◌++◌, length, take, drop, Some}
use Rattle.simplicity.specs.Types.{Kind, Product, Value, Inr, Pair, IsOf, AreOf, word_kind, word_value, word_count}
use Rattle.simplicity.specs.Tuples.{tuple_value, tuple_kind, copies_kind}
use Rattle.simplicity.specs.Terms.{Term, Answer, and_then}
use Rattle.simplicity.specs.Typing.{IsTyped}
use Rattle.simplicity.specs.Canon.{Declared, erased}
use Rattle.simplicity.specs.Arrows.{source, target, IsTypedTerm, AreWitnesses}
use Rattle.simplicity.specs.Makes.{comp, pair, on_first, on_second, to_left, to_right, by_tag, only_left, only_right, iden, unit, fail, word, witness}
use Rattle.simplicity.specs.Flowed.{flowed, leads_to, StartsFrom}
use Rattle.simplicity.specs.Digits.{Digits, number, tree}
use Rattle.simplicity.specs.Loops.{core_folded, core_go_on, core_counted, core_ran}

-- more than one are the tuple of the first half, rounded down, beside the tuple of the rest; a tuple of values is of the tuple of their types
pub record TuplesHalve : Type 0 where
  pub values : (vs : List Value) → 1 < length vs →
      tuple_value vs ≡ Pair (tuple_value (take (length vs / 2) vs)) (tuple_value (drop (length vs / 2) vs))
  pub types : (ks : List Kind) → 1 < length ks →
      tuple_kind ks ≡ Product (tuple_kind (take (length ks / 2) ks)) (tuple_kind (drop (length ks / 2) ks))
  pub copies : (n : ℕ) (k : Kind) → 1 < n → copies_kind n k ≡ Product (copies_kind (n / 2) k) (copies_kind (n - n / 2) k)
  pub fit : (vs : List Value) (ks : List Kind) → AreOf vs ks → IsOf (tuple_value vs) (tuple_kind ks)

-- a term that is typed at every place has its arrow by the typing table on trees, where the witnesses have the types that their places declare
abbrev pub PlacesAreTyped : Type 0
PlacesAreTyped = (ws : List Kind) (t : Declared) → IsTypedTerm t → AreWitnesses ws t → IsTyped ws (erased t) (source t) (target t)

-- what is made of terms that are typed at every place is typed at every place, where the types of its parts go together
pub record MadeIsTyped : Type 0 where
  pub iden : (a : Kind) → IsTypedTerm (iden a)
  pub unit : (a : Kind) → IsTypedTerm (unit a)
  pub fail : (a b : Kind) → IsTypedTerm (fail a b)
  pub word : (k n : ℕ) → IsTypedTerm (word k n)
  pub witness : (a b : Kind) (n : ℕ) → IsTypedTerm (witness a b n)
  pub comp : (s t : Declared) → IsTypedTerm s → IsTypedTerm t → target s ≡ source t → IsTypedTerm (comp s t)
  pub pair : (s t : Declared) → IsTypedTerm s → IsTypedTerm t → source t ≡ source s → IsTypedTerm (pair s t)
  pub on_first : (b : Kind) (t : Declared) → IsTypedTerm t → IsTypedTerm (on_first b t)
  pub on_second : (a : Kind) (t : Declared) → IsTypedTerm t → IsTypedTerm (on_second a t)
  pub to_left : (b : Kind) (t : Declared) → IsTypedTerm t → IsTypedTerm (to_left b t)
  pub to_right : (a : Kind) (t : Declared) → IsTypedTerm t → IsTypedTerm (to_right a t)
  pub by_tag : (a b c : Kind) (s t : Declared) → IsTypedTerm s → IsTypedTerm t → source s ≡ Product a c → source t ≡ Product b c → target t ≡ target s →
      IsTypedTerm (by_tag a b c s t)
  pub only_left : (a b c : Kind) (s : Declared) → IsTypedTerm s → source s ≡ Product a c → IsTypedTerm (only_left a b c s)
  pub only_right : (a b c : Kind) (t : Declared) → IsTypedTerm t → source t ≡ Product b c → IsTypedTerm (only_right a b c t)

-- a term with its arrows from a source is the term, starts there, and is typed at every place and as a tree if it can start there
pub record FlowedIsTyped : Type 0 where
  pub erases : (t : Term) (a : Kind) → erased (flowed t a) ≡ t
  pub starts : (t : Term) (a : Kind) → source (flowed t a) ≡ a
  pub places : (t : Term) (a : Kind) → StartsFrom t a → IsTypedTerm (flowed t a)
  pub typed : (ws : List Kind) (t : Term) (a : Kind) → StartsFrom t a → IsTyped ws t a (leads_to t a)

-- digits are the numbers of their width, and the values of its type
pub record WordsAreDigits : Type 0 where
  pub below : (k : ℕ) (d : Digits k) → number k d < word_count k
  pub value : (k : ℕ) (d : Digits k) → word_value k (number k d) ≡ tree k d
  pub of_number : (k x : ℕ) → x < word_count k → (d : Digits k) × (number k d ≡ x) × (word_value k x ≡ tree k d)
  pub of_value : (k : ℕ) (v : Value) → IsOf v (word_kind k) → (d : Digits k) × (v ≡ tree k d)
  pub is_of : (k : ℕ) (d : Digits k) → IsOf (tree k d) (word_kind k)

-- in the core language a fold over two lists is one fold after the other, a run of turns one run after the other,
-- and a loop with a counter is a run whose last Right is the loop's
pub record LoopsJoin : Type 0 where
  pub folds : (f : Value → Value → Answer) (us vs : List Value) (a : Value) → core_folded f (us ++ vs) a ≡ and_then (core_folded f us a) (core_folded f vs)
  pub runs : (f : ℕ → Value → Answer) (t u n : ℕ) (a : Value) → core_ran f (t + suc u) n a ≡ and_then (core_ran f t n a) (core_go_on (core_ran f u (n + suc t)))
  pub counts : (f : ℕ → Value → Answer) (more n : ℕ) (a : Value) → core_counted f (suc more) n a ≡ and_then (core_ran f more n a) (core_go_on (λ b. Some (Inr b)))
