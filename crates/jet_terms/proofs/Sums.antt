-- Sums and products by halves.
use Rattle.std.proofs.Common.{◌≡◌, ℕ, zero, suc, ◌+◌, ◌*◌, List, Bool, true, false, refl, ap, arith, Some}
use Rattle.simplicity.specs.Types.{Value, Pair, bit_value, word_count}
use Rattle.simplicity.specs.Terms.{meaning}
use Rattle.jet_terms.specs.Trees.{full_add, full_multiply}
use Rattle.simplicity.specs.Digits.{Digits, number, tree, bit_number}
use Rattle.simplicity.proofs.Digits.{count_square}

add_step : (B c m n h l ah al bh bl : ℕ) → m * B + l ≡ c + al + bl → n * B + h ≡ m + ah + bh → n * (B * B) + (h * B + l) ≡ c + (ah * B + al) + (bh * B + bl)
add_step B c m n h l ah al bh bl low high = omega (arith, low, ap (λ x. x * B) high)

pub record Adds (k : ℕ) (w : List Value) (c : Bool) (a b : Digits k) : Type 0 where
  pub carry : Bool
  pub total : Digits k
  pub gives : meaning (full_add k) w (Pair (bit_value c) (Pair (tree k a) (tree k b))) ≡ Some (Pair (bit_value carry) (tree k total))
  pub law : bit_number carry * word_count k + number k total ≡ bit_number c + number k a + number k b

pub adds : (k : ℕ) (w : List Value) (c : Bool) (a b : Digits k) → Adds k w c a b
adds zero w false false false = record { carry = false; total = false; gives = refl; law = refl }
adds zero w false false true = record { carry = false; total = true; gives = refl; law = refl }
adds zero w false true false = record { carry = false; total = true; gives = refl; law = refl }
adds zero w false true true = record { carry = true; total = false; gives = refl; law = refl }
adds zero w true false false = record { carry = false; total = true; gives = refl; law = refl }
adds zero w true false true = record { carry = true; total = false; gives = refl; law = refl }
adds zero w true true false = record { carry = true; total = false; gives = refl; law = refl }
adds zero w true true true = record { carry = true; total = true; gives = refl; law = refl }
adds (suc k) w c a b =
    let low = adds k w c a.1 b.1 in
    let high = adds k w low.carry a.0 b.0 in
    record {
      carry = high.carry;
      total = (high.total, low.total);
      gives = rw (low.gives) (rw (high.gives) refl);
      law = rw (count_square k) (add_step (word_count k) (bit_number c) (bit_number low.carry) (bit_number high.carry) (number k high.total) (number k low.total) (number k a.0) (number k a.1) (number k b.0) (number k b.1) low.law high.law);
    }

multiply_step : (B ah al bh bl ch cl dh dl p1h p1l p2h p2l p3h p3l p4h p4l : ℕ)
    → p1h * B + p1l ≡ al * bl + cl + dl
    → p2h * B + p2l ≡ ah * bl + p1h + ch
    → p3h * B + p3l ≡ al * bh + p2l + dh
    → p4h * B + p4l ≡ ah * bh + p2h + p3h
    → (p4h * B + p4l) * (B * B) + (p3l * B + p1l) ≡ (ah * B + al) * (bh * B + bl) + (ch * B + cl) + (dh * B + dl)
multiply_step B ah al bh bl ch cl dh dl p1h p1l p2h p2l p3h p3l p4h p4l e1 e2 e3 e4 =
    omega (arith, e1, ap (λ x. x * B) e2, ap (λ x. x * B) e3, ap (λ x. x * (B * B)) e4)

pub record Multiplies (k : ℕ) (w : List Value) (a b c d : Digits k) : Type 0 where
  pub product : Digits (suc k)
  pub gives : meaning (full_multiply k) w (Pair (Pair (tree k a) (tree k b)) (Pair (tree k c) (tree k d))) ≡ Some (tree (suc k) product)
  pub law : number (suc k) product ≡ number k a * number k b + number k c + number k d

pub multiplies : (k : ℕ) (w : List Value) (a b c d : Digits k) → Multiplies k w a b c d
multiplies zero w false b c d =
    let s = adds zero w false c d in record { product = (s.carry, s.total); gives = s.gives; law = omega (arith, s.law) }
multiplies zero w true b c d =
    let s = adds zero w b c d in record { product = (s.carry, s.total); gives = s.gives; law = omega (arith, s.law) }
multiplies (suc k) w a b c d =
    let p1 = multiplies k w a.1 b.1 c.1 d.1 in
    let p2 = multiplies k w a.0 b.1 p1.product.0 c.0 in
    let p3 = multiplies k w a.1 b.0 p2.product.1 d.0 in
    let p4 = multiplies k w a.0 b.0 p2.product.0 p3.product.0 in
    record {
      product = (p4.product, (p3.product.1, p1.product.1));
      gives = rw (p1.gives) (rw (p2.gives) (rw (p3.gives) (rw (p4.gives) refl)));
      law = rw (count_square k) (multiply_step (word_count k) (number k a.0) (number k a.1) (number k b.0) (number k b.1) (number k c.0) (number k c.1) (number k d.0) (number k d.1)
          (number k p1.product.0) (number k p1.product.1) (number k p2.product.0) (number k p2.product.1) (number k p3.product.0) (number k p3.product.1) (number k p4.product.0) (number k p4.product.1)
          p1.law p2.law p3.law p4.law);
    }
