-- The encodings of several values, taken apart and put together.
use Rattle.std.proofs.Common.{◌≡◌, suc, List, [], ◌∷◌, length, map, Option, Some, None, refl, ap, ◌∙◌}
use Rattle.std.specs.Prelude.{option_and_then}
use Rattle.hl_data.specs.declared.value.HlValue.{HlValue}
use Rattle.hl_syntax.specs.declared.kinds.HlType.{HlType}
use Rattle.hl_meaning.specs.Answer.{Answer, gives, fails, stuck, and_then}
use Rattle.hl_meaning.specs.Values.{encoded, at_each, at_all, beside}
use Rattle.simplicity.specs.Terms as core
use Rattle.simplicity.specs.Types.{Value}
use Rattle.hl_term_laws.specs.Renders.{Computes}

pub record Split {A : Type 0} (a : Option A) (b : Option (List A)) (all : List A) : Type 0 where
  pub one : A
  pub more : List A
  pub one_is : a ≡ Some one
  pub more_are : b ≡ Some more
  pub are : one ∷ more ≡ all

list_same : {A : Type 0} (xs ys : List A) → Some xs ≡ Some ys → xs ≡ ys
list_same xs ys e = cc

pub split : {A : Type 0} (a : Option A) (b : Option (List A)) (all : List A) → beside (λ x xs. x ∷ xs) a b ≡ Some all → Split a b all
split (Some x) (Some xs) all e = record { one = x; more = xs; one_is = refl; more_are = refl; are = list_same (x ∷ xs) all e }
split (Some x) None all e = absurd (cc)
split None b all e = absurd (cc)

pub record Then {A B : Type 0} (o : Option A) (next : A → Option B) (y : B) : Type 0 where
  pub from : A
  pub was : o ≡ Some from
  pub is : next from ≡ Some y

pub then_there : {A B : Type 0} (o : Option A) (next : A → Option B) (y : B) → option_and_then next o ≡ Some y → Then o next y
then_there (Some x) next y e = record { from = x; was = refl; is = e }
then_there None next y e = absurd (cc)

-- one more at its type
pub one_more : (v : HlValue) (vs : List HlValue) (k : HlType) (ks : List HlType) (c : Value) (cs : List Value) → encoded v k ≡ Some c → at_each (map encoded vs) ks ≡ Some cs →
    at_each (map encoded (v ∷ vs)) (k ∷ ks) ≡ Some (c ∷ cs)
one_more v vs k ks c cs e f = ap (λ o. beside (λ c cs. c ∷ cs) o (at_each (map encoded vs) ks)) e ∙ ap (beside (λ c cs. c ∷ cs) (Some c)) f

-- as many core values as values
pub all_long : (vs : List HlValue) (k : HlType) (cs : List Value) → at_all (map encoded vs) k ≡ Some cs → length cs ≡ length (map encoded vs)
all_long [] k cs e = ap length (list_same cs [] (cc))
all_long (v ∷ vs) k cs e =
    let s = split (encoded v k) (at_all (map encoded vs) k) cs e in
    ap length (list_same cs (s.one ∷ s.more) (cc)) ∙ ap suc (all_long vs k s.more s.more_are)

-- one answer after the other
pub after : (k l : HlType) (a : Answer HlValue) (next : HlValue → Answer HlValue) (d : Option Value) (run : Value → Option Value) → Computes k a d →
    ((v : HlValue) (c : Value) → encoded v k ≡ Some c → Computes l (next v) (run c)) → Computes l (and_then a next) (core.and_then d run)
after k l (gives v) next d run h g = rw h.is (g v h.core h.encodes)
after k l fails next d run h g = rw h refl
after k l stuck next d run h g = tt
