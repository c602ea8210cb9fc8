-- What types are by their outermost layers.
use Rattle.std.proofs.Common.{◌≡◌, ℕ, List, Some, sym, ap, ◌∙◌}
use Rattle.hl_syntax.specs.declared.kinds.HlType.{HlType}
use Rattle.hl_syntax.specs.declared.kinds.HlType.TheOpen.{HlType-F}
use Rattle.hl_syntax.specs.declared.kinds.HlType.TheVariants as kind
use Rattle.hl_syntax.specs.declared.kinds.HlType.TheViews.{roll-HlType, out-HlType, roll-out-HlType}
use Rattle.hl_rules.specs.Same.{width_of, width_in, parts_of, parts_in, array_of, array_in, list_of, list_in, option_of, option_in, either_of, either_in}

-- types with the same layer are equal
pub one_layer : (k l : HlType) → out-HlType k ≡ out-HlType l → k ≡ l
one_layer k l is = sym (roll-out-HlType k) ∙ ap roll-HlType is ∙ roll-out-HlType l

tuple_layer : (x : HlType-F HlType) (ks : List HlType) → parts_in x ≡ Some ks → x ≡ HlType-F.Tuple ks
tuple_layer (HlType-F.Tuple parts) ks h = let same : parts ≡ ks = cc in ap HlType-F.Tuple same
tuple_layer _ ks h = absurd (cc)

array_layer : (x : HlType-F HlType) (a : HlType × ℕ) → array_in x ≡ Some a → x ≡ HlType-F.Array a.0 a.1
array_layer (HlType-F.Array item count) a h = let same : ◌≡◌ {A = HlType × ℕ} (item, count) a = cc in ap (λ (b : HlType × ℕ). HlType-F.Array b.0 b.1) same
array_layer _ a h = absurd (cc)

list_layer : (x : HlType-F HlType) (a : HlType × ℕ) → list_in x ≡ Some a → x ≡ HlType-F.List a.0 a.1
list_layer (HlType-F.List item count) a h = let same : ◌≡◌ {A = HlType × ℕ} (item, count) a = cc in ap (λ (b : HlType × ℕ). HlType-F.List b.0 b.1) same
list_layer _ a h = absurd (cc)

option_layer : (x : HlType-F HlType) (k : HlType) → option_in x ≡ Some k → x ≡ HlType-F.Option k
option_layer (HlType-F.Option item) k h = let same : item ≡ k = cc in ap HlType-F.Option same
option_layer _ k h = absurd (cc)

either_layer : (x : HlType-F HlType) (a : HlType × HlType) → either_in x ≡ Some a → x ≡ HlType-F.Either a.0 a.1
either_layer (HlType-F.Either left right) a h = let same : ◌≡◌ {A = HlType × HlType} (left, right) a = cc in ap (λ (b : HlType × HlType). HlType-F.Either b.0 b.1) same
either_layer _ a h = absurd (cc)

word_layer : (x : HlType-F HlType) (w : ℕ) → width_in x ≡ Some w → x ≡ HlType-F.UInt w
word_layer (HlType-F.UInt width) w h = let same : width ≡ w = cc in ap HlType-F.UInt same
word_layer _ w h = absurd (cc)

pub is_tuple : (k : HlType) (ks : List HlType) → parts_of k ≡ Some ks → kind.Tuple ks ≡ k
is_tuple k ks h = one_layer (kind.Tuple ks) k (kind.outs-Tuple ks ∙ sym (tuple_layer (out-HlType k) ks h))

pub is_array : (k : HlType) (a : HlType × ℕ) → array_of k ≡ Some a → kind.Array a.0 a.1 ≡ k
is_array k a h = one_layer (kind.Array a.0 a.1) k (kind.outs-Array a.0 a.1 ∙ sym (array_layer (out-HlType k) a h))

pub is_list : (k : HlType) (a : HlType × ℕ) → list_of k ≡ Some a → kind.List a.0 a.1 ≡ k
is_list k a h = one_layer (kind.List a.0 a.1) k (kind.outs-List a.0 a.1 ∙ sym (list_layer (out-HlType k) a h))

pub is_option : (k item : HlType) → option_of k ≡ Some item → kind.Option item ≡ k
is_option k item h = one_layer (kind.Option item) k (kind.outs-Option item ∙ sym (option_layer (out-HlType k) item h))

pub is_either : (k : HlType) (a : HlType × HlType) → either_of k ≡ Some a → kind.Either a.0 a.1 ≡ k
is_either k a h = one_layer (kind.Either a.0 a.1) k (kind.outs-Either a.0 a.1 ∙ sym (either_layer (out-HlType k) a h))

pub is_word : (k : HlType) (w : ℕ) → width_of k ≡ Some w → kind.UInt w ≡ k
is_word k w h = one_layer (kind.UInt w) k (kind.outs-UInt w ∙ sym (word_layer (out-HlType k) w h))
