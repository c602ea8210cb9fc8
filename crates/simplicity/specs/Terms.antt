-- Terms as trees, and their meaning (Simplicity Technical Report, "Core Simplicity", with witnesses, assertions, words and failure).
use Rattle.std.specs.Prelude.{ℕ, List, Option, Some, None, slice_get}
use Rattle.simplicity.specs.Types.{Value, UnitValue, Inl, Inr, Pair, word_value}

-- a term; a witness has its number, a word its width as 2 ^ k and its number,
-- an assertion the 32 bytes of its hidden side, a failure its 64 bytes
pub data Term : Type 0 where
  Iden : Term
  Comp : (s t : Term) → Term
  UnitTerm : Term
  Injl : (t : Term) → Term
  Injr : (t : Term) → Term
  Case : (s t : Term) → Term
  PairTerm : (s t : Term) → Term
  Take : (t : Term) → Term
  Drop : (t : Term) → Term
  Witness : (number : ℕ) → Term
  Word : (k number : ℕ) → Term
  AssertL : (s : Term) (hidden : List ℕ) → Term
  AssertR : (hidden : List ℕ) (t : Term) → Term
  Fail : (entropy : List ℕ) → Term

-- a value, or failure
abbrev pub Answer : Type 0
Answer = Option Value

-- what the next part makes of an answer: a failure stays one
abbrev pub and_then : Answer → (Value → Answer) → Answer
and_then None f = None
and_then (Some v) f = f v

-- both answers as a pair
abbrev pub paired : Answer → Answer → Answer
paired a b = and_then a (λ u. and_then b (λ v. Some (Pair u v)))

-- on `(inl a, c)` the first on `(a, c)`, on `(inr b, c)` the second on `(b, c)`
abbrev pub on_tag : (Value → Answer) → (Value → Answer) → Value → Answer
on_tag f g (Pair (Inl a) c) = f (Pair a c)
on_tag f g (Pair (Inr b) c) = g (Pair b c)
on_tag f g _ = None

-- on a pair its first part, or its second
abbrev pub on_first : (Value → Answer) → Value → Answer
on_first f (Pair a b) = f a
on_first f _ = None

abbrev pub on_second : (Value → Answer) → Value → Answer
on_second f (Pair a b) = f b
on_second f _ = None

-- what a term gives on an input where the witnesses have these values; types play no part
abbrev pub meaning : Term → List Value → Value → Answer
meaning Iden w v = Some v
meaning (Comp s t) w v = and_then (meaning s w v) (meaning t w)
meaning UnitTerm w v = Some UnitValue
meaning (Injl t) w v = and_then (meaning t w v) (λ u. Some (Inl u))
meaning (Injr t) w v = and_then (meaning t w v) (λ u. Some (Inr u))
meaning (Case s t) w v = on_tag (meaning s w) (meaning t w) v
meaning (PairTerm s t) w v = paired (meaning s w v) (meaning t w v)
meaning (Take t) w v = on_first (meaning t w) v
meaning (Drop t) w v = on_second (meaning t w) v
meaning (Witness n) w v = slice_get w n
meaning (Word k n) w v = Some (word_value k n)
meaning (AssertL s h) w v = on_tag (meaning s w) (λ _. None) v
meaning (AssertR h t) w v = on_tag (λ _. None) (meaning t w) v
meaning (Fail e) w v = None
