-- A value is read exactly where its code stands, and refused exactly where the bits end inside one.
use Rattle.std.proofs.Common.{◌≡◌, refl, ap, sym, subst, ◌∙◌, ℕ, zero, suc, ◌+◌, ◌<◌, inl, inr, Bool, true, false, cond, List, [], ◌∷◌, ◌++◌, length, arith, append_assoc, append-nil, length-append}
use Rattle.simplicity.specs.Types.{Kind, One, Sum, Product, Value, UnitValue, Inl, Inr, Pair, IsOf, code}
use Rattle.simplicity.proofs.Values.{code_apart}
use Rattle.spelling.specs.Reading.{Read, Got, Refused, Refusal, EndOfBits, Reading, then, give, one_bit}
use Rattle.spelling.specs.Values.{read_value, ValuesAreRead, IsCut, ValuesAreRefused}
use Rattle.spelling.proofs.Basics.{got_apart, then_got, then_gets}
use Rattle.spelling.proofs.Refusals.{then_refused}

gets : (k : Kind) (v : Value) (at : ℕ) (rest : List Bool) → IsOf v k → read_value k at (code v ++ rest) ≡ Got v (at + length (code v)) rest
gets One UnitValue at rest h = ap (λ p. Got UnitValue p rest) (omega arith)
gets (Sum a b) (Inl u) at rest h =
    ap (λ r. then r (λ v. give (Inl v))) (gets a u (suc at) rest h) ∙ ap (λ p. Got (Inl u) p rest) (omega arith)
gets (Sum a b) (Inr u) at rest h =
    ap (λ r. then r (λ v. give (Inr v))) (gets b u (suc at) rest h) ∙ ap (λ p. Got (Inr u) p rest) (omega arith)
gets (Product a b) (Pair u v) at rest h =
    let long : length (code u ++ code v) ≡ length (code u) + length (code v) = length-append (code u) (code v) in
    ap (read_value (Product a b) at) (append_assoc (code u) (code v) rest)
    ∙ ap (λ r. then r (λ u' at' bits'. then (read_value b at' bits') (λ v'. give (Pair u' v')))) (gets a u at (code v ++ rest) h.0)
    ∙ ap (λ r. then r (λ v'. give (Pair u v'))) (gets b v (at + length (code u)) rest h.1)
    ∙ ap (λ p. Got (Pair u v) p rest) (omega (arith, long))
gets One (Inl u) at rest h = elim h [ ]
gets One (Inr u) at rest h = elim h [ ]
gets One (Pair u v) at rest h = elim h [ ]
gets (Sum a b) UnitValue at rest h = elim h [ ]
gets (Sum a b) (Pair u v) at rest h = elim h [ ]
gets (Product a b) UnitValue at rest h = elim h [ ]
gets (Product a b) (Inl u) at rest h = elim h [ ]
gets (Product a b) (Inr u) at rest h = elim h [ ]

-- what was read
record Stands (k : Kind) (v : Value) (at end : ℕ) (bits rest : List Bool) : Type 0 where
  is_of : IsOf v k
  bits_are : bits ≡ code v ++ rest
  ends : end ≡ at + length (code v)

only : (k : Kind) (v : Value) (at end : ℕ) (bits rest : List Bool) → read_value k at bits ≡ Got v end rest → Stands k v at end bits rest
only One v at end bits rest e =
    let same = got_apart UnitValue v at end bits rest e in
    subst (λ w. Stands One w at end bits rest) same.0 (record { is_of = tt; bits_are = same.2; ends = omega (arith, same.1) })
only (Sum a b) v at end [] rest e = absurd (cc)
only (Sum a b) v at end (false ∷ bits) rest e =
    let got = then_got (read_value a (suc at) bits) (λ w. give (Inl w)) v end rest e in
    let same = got_apart (Inl got.0) v got.1 end got.2 rest got.4 in
    let inner = only a got.0 (suc at) got.1 bits got.2 got.3 in
    subst (λ w. Stands (Sum a b) w at end (false ∷ bits) rest) same.0
    (record { is_of = inner.is_of; bits_are = ap (λ l. false ∷ l) (inner.bits_are ∙ ap (λ l. code got.0 ++ l) same.2); ends = omega (arith, inner.ends, same.1) })
only (Sum a b) v at end (true ∷ bits) rest e =
    let got = then_got (read_value b (suc at) bits) (λ w. give (Inr w)) v end rest e in
    let same = got_apart (Inr got.0) v got.1 end got.2 rest got.4 in
    let inner = only b got.0 (suc at) got.1 bits got.2 got.3 in
    subst (λ w. Stands (Sum a b) w at end (true ∷ bits) rest) same.0
    (record { is_of = inner.is_of; bits_are = ap (λ l. true ∷ l) (inner.bits_are ∙ ap (λ l. code got.0 ++ l) same.2); ends = omega (arith, inner.ends, same.1) })
only (Product a b) v at end bits rest e =
    let got = then_got (read_value a at bits) (λ u' at' bits'. then (read_value b at' bits') (λ v'. give (Pair u' v'))) v end rest e in
    let more = then_got (read_value b got.1 got.2) (λ v'. give (Pair got.0 v')) v end rest got.4 in
    let same = got_apart (Pair got.0 more.0) v more.1 end more.2 rest more.4 in
    let first = only a got.0 at got.1 bits got.2 got.3 in
    let second = only b more.0 got.1 more.1 got.2 more.2 more.3 in
    let long : length (code got.0 ++ code more.0) ≡ length (code got.0) + length (code more.0) = length-append (code got.0) (code more.0) in
    subst (λ w. Stands (Product a b) w at end bits rest) same.0 (record {
      is_of = (first.is_of, second.is_of);
      bits_are = first.bits_are ∙ ap (λ l. code got.0 ++ l) (second.bits_are ∙ ap (λ l. code more.0 ++ l) same.2) ∙ sym (append_assoc (code got.0) (code more.0) rest);
      ends = omega (arith, first.ends, second.ends, same.1, long);
    })

pub values_are_read : ValuesAreRead
values_are_read = record { gets = gets; only = λ k v at end bits rest e. (let h = only k v at end bits rest e in (h.is_of, h.bits_are, h.ends)) }

-- every type has a value
some_value : Kind → Value
some_value One = UnitValue
some_value (Sum a b) = Inl (some_value a)
some_value (Product a b) = Pair (some_value a) (some_value b)

some_is : (k : Kind) → IsOf (some_value k) k
unfolding some_value
some_is One = tt
some_is (Sum a b) = some_is a
some_is (Product a b) = (some_is a, some_is b)

record Ends (k : Kind) (at : ℕ) (bits : List Bool) (r : Refusal) : Type 0 where
  place : r ≡ EndOfBits (at + length bits)
  cut : IsCut k bits

refused : (k : Kind) (at : ℕ) (bits : List Bool) (r : Refusal) → read_value k at bits ≡ Refused r → Ends k at bits r
refused One at bits r e = absurd (cc)
refused (Sum a b) at [] r e =
    let same : EndOfBits at ≡ r = cc in
    record {
      place = sym same ∙ ap EndOfBits (omega arith);
      cut = record { value = Inl (some_value a); is_of = some_is a; more = false ∷ code (some_value a); some = omega arith; stands = refl };
    }
refused (Sum a b) at (false ∷ bits) r e =
    elim (then_refused (read_value a (suc at) bits) (λ w. give (Inl w)) r e) [
      | inl g ↦ (let inner = refused a (suc at) bits r g in
          record {
            place = inner.place ∙ ap EndOfBits (omega arith);
            cut = record { value = Inl inner.cut.value; is_of = inner.cut.is_of; more = inner.cut.more; some = inner.cut.some; stands = ap (λ l. false ∷ l) inner.cut.stands };
          })
      | inr g ↦ (let clash : Got (Inl g.0) g.1 g.2 ≡ Refused r = g.4 in absurd (cc))
    ]
refused (Sum a b) at (true ∷ bits) r e =
    elim (then_refused (read_value b (suc at) bits) (λ w. give (Inr w)) r e) [
      | inl g ↦ (let inner = refused b (suc at) bits r g in
          record {
            place = inner.place ∙ ap EndOfBits (omega arith);
            cut = record { value = Inr inner.cut.value; is_of = inner.cut.is_of; more = inner.cut.more; some = inner.cut.some; stands = ap (λ l. true ∷ l) inner.cut.stands };
          })
      | inr g ↦ (let clash : Got (Inr g.0) g.1 g.2 ≡ Refused r = g.4 in absurd (cc))
    ]
refused (Product a b) at bits r e =
    elim (then_refused (read_value a at bits) (λ u' at' bits'. then (read_value b at' bits') (λ v'. give (Pair u' v'))) r e) [
      | inl g ↦ (let inner = refused a at bits r g in
          let others : List Bool = code (some_value b) in
          let some : 0 < length inner.cut.more = inner.cut.some in
          record {
            place = inner.place;
            cut = record {
              value = Pair inner.cut.value (some_value b);
              is_of = (inner.cut.is_of, some_is b);
              more = inner.cut.more ++ code (some_value b);
              some = omega (arith, some, length-append inner.cut.more (code (some_value b)));
              stands = ap (λ l. l ++ code (some_value b)) inner.cut.stands ∙ append_assoc bits inner.cut.more (code (some_value b));
            };
          })
      | inr g ↦ elim (then_refused (read_value b g.1 g.2) (λ v'. give (Pair g.0 v')) r g.4) [
        | inl k ↦ (let inner = refused b g.1 g.2 r k in
            let first = only a g.0 at g.1 bits g.2 g.3 in
            let long : length bits ≡ length (code g.0) + length g.2 = ap length first.bits_are ∙ length-append (code g.0) g.2 in
            record {
              place = inner.place ∙ ap EndOfBits (omega (arith, first.ends, long));
              cut = record {
                value = Pair g.0 inner.cut.value;
                is_of = (first.is_of, inner.cut.is_of);
                more = inner.cut.more;
                some = inner.cut.some;
                stands = ap (λ l. code g.0 ++ l) inner.cut.stands ∙ sym (append_assoc (code g.0) g.2 inner.cut.more) ∙ ap (λ l. l ++ inner.cut.more) (sym first.bits_are);
              };
            })
        | inr k ↦ (let clash : Got (Pair g.0 k.0) k.1 k.2 ≡ Refused r = k.4 in absurd (cc))
      ]
    ]

cut_by : (k : Kind) (at : ℕ) (bits : List Bool) (c : IsCut k bits) (r : Read Value) → read_value k at bits ≡ r → read_value k at bits ≡ Refused (EndOfBits (at + length bits))
cut_by k at bits c (Refused r) e = e ∙ ap Refused (refused k at bits r e).place
cut_by k at bits c (Got w end rest) e =
    let there = only k w at end bits rest e in
    let whole : code c.value ++ [] ≡ code w ++ (rest ++ c.more) =
    append-nil (code c.value) ∙ c.stands ∙ ap (λ l. l ++ c.more) there.bits_are ∙ append_assoc (code w) rest c.more in
    let apart = code_apart k c.value w [] (rest ++ c.more) c.is_of there.is_of whole in
    let none : 0 ≡ length (rest ++ c.more) = ap length apart.1 in
    let some : 0 < length c.more = c.some in
    absurd (omega (arith, none, some, length-append rest c.more))

pub values_are_refused : ValuesAreRefused
values_are_refused = record {
  cut = λ k at bits c. cut_by k at bits c (read_value k at bits) refl;
  only = λ k at bits r e. (let h = refused k at bits r e in (h.place, h.cut));
}
