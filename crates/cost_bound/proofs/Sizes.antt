-- Sizes and works of types whose weight is within the limit.
use Rattle.std.proofs.Common.{◌≡◌, ℕ, zero, suc, ◌+◌, ◌-◌, ◌<◌, ◌≤◌, ◌⊎◌, inl, inr, max, List, [], ◌∷◌, ◌++◌, length, get_or, refl, sym, ap, subst, ◌∙◌, arith, length-append}
use Rattle.std.proofs.lemmas.List.{get_or_append_left}
use Rattle.std.proofs.lemmas.Bool.{cases_lt}
use Rattle.simplicity.specs.Types.{Kind, One, Sum, Product, size, weight, pad_left, pad_right}
use Rattle.simplicity.specs.Limits.{capped, most_weight}
use Rattle.simplicity.specs.Bounds.{writing_work}
use Rattle.type_table.specs.Kinds.{kind_at}
use Rattle.cost_bound.specs.Numbers.{AreWorks}

pub size_within : (k : Kind) → size k ≤ weight k
size_within One = omega arith
size_within (Sum a b) = omega (arith, size_within a, size_within b)
size_within (Product a b) = omega (arith, size_within a, size_within b)

pub size_exact : (k : Kind) (n : ℕ) → n ≡ capped (size k) → weight k ≤ most_weight → n ≡ size k
size_exact k n is light = omega (arith, size_within k)

pub pad_on_left : (a b : Kind) (x y : ℕ) → x ≡ capped (size a) → y ≡ capped (size b) → weight a + weight b ≤ most_weight → max x y - x ≡ pad_left a b
pad_on_left a b x y f g light =
    let left : x ≡ size a = size_exact a x f (omega arith) in let right : y ≡ size b = size_exact b y g (omega arith) in omega arith

pub pad_on_right : (a b : Kind) (x y : ℕ) → x ≡ capped (size a) → y ≡ capped (size b) → weight a + weight b ≤ most_weight → max x y - y ≡ pad_right a b
pad_on_right a b x y f g light =
    let left : x ≡ size a = size_exact a x f (omega arith) in let right : y ≡ size b = size_exact b y g (omega arith) in omega arith

-- the work of a sum and of a product from those of their parts
pub work_of_sum : (a b : Kind) (l r x y : ℕ) → (weight a + weight b ≤ most_weight → l ≡ pad_left a b) → (weight a + weight b ≤ most_weight → r ≡ pad_right a b) →
    (weight a ≤ most_weight → x ≡ capped (writing_work a)) → (weight b ≤ most_weight → y ≡ capped (writing_work b)) → weight (Sum a b) ≤ most_weight →
    capped (max (capped (capped (l + 1) + x)) (capped (capped (r + 1) + y)) + 1) ≡ capped (writing_work (Sum a b))
work_of_sum a b l r x y left right on_left on_right light =
    let p : l ≡ pad_left a b = left (omega arith) in
    let q : r ≡ pad_right a b = right (omega arith) in
    let v : x ≡ capped (writing_work a) = on_left (omega arith) in
    let w : y ≡ capped (writing_work b) = on_right (omega arith) in
    omega arith

pub work_of_product : (a b : Kind) (x y : ℕ) → (weight a ≤ most_weight → x ≡ capped (writing_work a)) → (weight b ≤ most_weight → y ≡ capped (writing_work b)) →
    weight (Product a b) ≤ most_weight → capped (x + y) ≡ capped (writing_work (Product a b))
work_of_product a b x y on_left on_right light =
    let v : x ≡ capped (writing_work a) = on_left (omega arith) in
    let w : y ≡ capped (writing_work b) = on_right (omega arith) in
    omega arith

get_new : (ws : List ℕ) (w n : ℕ) → n ≡ length ws → get_or (ws ++ w ∷ []) n 0 ≡ w
get_new [] w n e = rw e refl
get_new (x ∷ ws) w zero e = absurd (omega arith)
get_new (x ∷ ws) w (suc n) e = get_new ws w n (omega arith)

work_at : (kinds : List Kind) (ws us : List ℕ) (w n id : ℕ) → AreWorks kinds ws → n ≡ length ws →
    (weight (kind_at kinds n) ≤ most_weight → w ≡ capped (writing_work (kind_at kinds n))) → us ≡ ws ++ w ∷ [] → (id < length ws) ⊎ (id ≡ length ws) →
    weight (kind_at kinds id) ≤ most_weight → get_or us id 0 ≡ capped (writing_work (kind_at kinds id))
work_at kinds ws us w n id works next new is (inl below) light = ap (λ (xs : List ℕ). get_or xs id 0) is ∙ get_or_append_left ws (w ∷ []) 0 id below ∙ works.each id below light
work_at kinds ws us w n id works next new is (inr last) light =
    let same : id ≡ n = last ∙ sym next in
    ap (λ (xs : List ℕ). get_or xs id 0) is ∙ get_new ws w id last ∙ new (subst (λ (x : ℕ). weight (kind_at kinds x) ≤ most_weight) same light)
    ∙ ap (λ (x : ℕ). capped (writing_work (kind_at kinds x))) (sym same)

-- one work more
pub more_works : (kinds : List Kind) (ws us : List ℕ) (w n : ℕ) → AreWorks kinds ws → n ≡ length ws →
    (weight (kind_at kinds n) ≤ most_weight → w ≡ capped (writing_work (kind_at kinds n))) → us ≡ ws ++ w ∷ [] → AreWorks kinds us
more_works kinds ws us w n works next new is = record {
  each = λ id within light.
      let long : length us ≡ length ws + 1 = ap length is ∙ length-append ws (w ∷ []) in
      let at : (id < length ws) ⊎ (id ≡ length ws) = elim (cases_lt id (length ws)) [ inl below ↦ inl below | inr past ↦ inr (omega arith) ] in
      work_at kinds ws us w n id works next new is at light;
}
