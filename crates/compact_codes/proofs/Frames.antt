-- Frames at the end of a list of them, and the way down to the first part of a type and up again.
use Rattle.std.proofs.Common.{◌≡◌, refl, ap, sym, ◌∙◌, ℕ, suc, ◌+◌, ◌*◌, ◌<◌, ◌≤◌, Bool, true, false, cond, List, [], ◌∷◌, ◌++◌, length, arith}
use Rattle.simplicity.specs.Types.{Kind, Sum, Value, UnitValue, Inl, Inr, Pair, weight}
use Rattle.spelling.specs.Reading.{Read, Got, Refused, Refusal, EndOfBits, then, give, one_bit}
use Rattle.spelling.specs.Values.{read_value}
use Rattle.cell_bits.specs.Places.{Place, rest}
use Rattle.core_data.specs.Data.{value_of}
use Rattle.core_data.specs.declared.data.CoreValue.{CoreValue}
use Rattle.type_table.specs.Kinds.{kind_at, HasShape}
use Rattle.type_table.specs.declared.shape.Shape.TheVariants as shape
use Rattle.compact_codes.specs.declared.read.Frame.{Frame}
use Rattle.compact_codes.specs.declared.read.Frame.TheVariants as frame
use Rattle.compact_codes.specs.Frames.{in_frame, after, turns, load, IsIn, AreIn, read_at, Descends, GoesOn}

pub after-push : (kinds : List Kind) (frames : List Frame) (f : Frame) (read : Read Value) → after kinds (frames ++ f ∷ []) read ≡ after kinds frames (then read (in_frame kinds f))
after-push kinds [] f read = refl
after-push kinds (first ∷ frames) f read = ap (λ r. then r (in_frame kinds first)) (after-push kinds frames f read)

pub after-refused : (kinds : List Kind) (frames : List Frame) (r : Refusal) → after kinds frames (Refused r) ≡ Refused r
after-refused kinds [] r = refl
after-refused kinds (first ∷ frames) r = ap (λ x. then x (in_frame kinds first)) (after-refused kinds frames r)

pub load-push : (kinds : List Kind) (frames : List Frame) (f : Frame) → load kinds (frames ++ f ∷ []) ≡ turns kinds f + load kinds frames
load-push kinds [] f = refl
load-push kinds (first ∷ frames) f = omega (arith, load-push kinds frames f)

pub in-push : (kinds : List Kind) (frames : List Frame) (f : Frame) → AreIn kinds frames → IsIn kinds f → AreIn kinds (frames ++ f ∷ [])
in-push kinds [] f h g = (g, tt)
in-push kinds (first ∷ frames) f h g = (h.0, in-push kinds frames f h.1 g)

pub in-pop : (kinds : List Kind) (frames : List Frame) (f : Frame) → AreIn kinds (frames ++ f ∷ []) → AreIn kinds frames × IsIn kinds f
in-pop kinds [] f h = (tt, h.0)
in-pop kinds (first ∷ frames) f h = let more = in-pop kinds frames f h.1 in ((h.0, more.0), more.1)

-- a tag was read, and then comes the value of its side
side : (a b : Kind) (t : Bool) (at end : ℕ) (bits more : List Bool) → one_bit at bits ≡ Got t end more →
    read_value (Sum a b) at bits ≡ cond t (then (read_value b end more) (λ v. give (Inr v))) (then (read_value a end more) (λ v. give (Inl v)))
side a b t at end bits more e =
    ap (λ r. then r (λ right at' bits'. cond right (then (read_value b at' bits') (λ v. give (Inr v))) (then (read_value a at' bits') (λ v. give (Inl v))))) e

-- no bit is left
no_bit : (at : ℕ) (bits : List Bool) (r : Refusal) → one_bit at bits ≡ Refused r → one_bit at bits ≡ Refused (EndOfBits at)
no_bit at [] r e = refl
no_bit at (b ∷ bits) r e = absurd (cc)

bit_on : (t : Bool) (at end : ℕ) (bits more : List Bool) → one_bit at bits ≡ Got t end more → at ≤ end
bit_on t at end [] more e = absurd (cc)
bit_on t at end (b ∷ bits) more e = let next : suc at ≡ end = cc in omega (arith, next)

-- the way down from a part whose reading the frames go on with
pub record Goes (kinds : List Kind) (kind : ℕ) (old : List Frame) (from : Place) (part : ℕ) (now : List Frame) (place : Place) : Type 0 where
  pub same : after kinds now (read_at kinds part place) ≡ after kinds old (read_at kinds kind from)
  pub less : load kinds now + 2 * weight (kind_at kinds part) ≤ load kinds old + 2 * weight (kind_at kinds kind)
  pub within : AreIn kinds now
  pub there : part < length kinds
  pub on : GoesOn from place

module _ (kinds : List Kind) (kind : ℕ) (old : List Frame) (from : Place) (part : ℕ) (now : List Frame) (place : Place) (goes : Goes kinds kind old from part now place) where
  pub at_unit : HasShape kinds part shape.One → Descends kinds kind old now UnitValue from place
  at_unit is = record {
    comes = ap (λ k. after kinds now (read_value k place.at (rest place))) (sym is.is) ∙ goes.same;
    less = (let heavy = ap weight is.is in omega (arith, heavy, goes.less));
    within = goes.within;
  }

  -- the bits end at a tag
  pub at_end : (left right : ℕ) (r : Refusal) → HasShape kinds part (shape.Sum left right) → one_bit place.at (rest place) ≡ Refused r →
      after kinds old (read_at kinds kind from) ≡ Refused (EndOfBits place.at)
  at_end left right r is e =
      sym goes.same ∙ ap (λ k. after kinds now (read_value k place.at (rest place))) is.is
      ∙ ap (λ x. after kinds now (then x (λ t at' bits'. cond t (then (read_value (kind_at kinds right) at' bits') (λ v. give (Inr v))) (then (read_value (kind_at kinds left) at' bits') (λ v. give (Inl v))))))
      (no_bit place.at (rest place) r e)
      ∙ after-refused kinds now (EndOfBits place.at)

  module _ (left right : ℕ) (new : List Frame) where
    module _ (next : Place) (is : HasShape kinds part (shape.Sum left right)) (stays : next.bits ≡ place.bits) where
      pub to_left : (t : Bool) → t ≡ false → one_bit place.at (rest place) ≡ Got t next.at (rest next) → new ≡ now ++ frame.Left ∷ [] → Goes kinds kind old from left new next
      to_left t tag e pushed = record {
        same = ap (λ l. after kinds l (read_at kinds left next)) pushed ∙ after-push kinds now frame.Left (read_at kinds left next)
            ∙ ap (λ b. after kinds now (cond b (then (read_at kinds right next) (λ v. give (Inr v))) (then (read_at kinds left next) (λ v. give (Inl v))))) (sym tag)
            ∙ ap (after kinds now) (sym (side (kind_at kinds left) (kind_at kinds right) t place.at next.at (rest place) (rest next) e))
            ∙ ap (λ k. after kinds now (read_value k place.at (rest place))) (sym is.is) ∙ goes.same;
        less = (let heavy = ap weight is.is in let count = ap (load kinds) pushed ∙ load-push kinds now frame.Left in omega (arith, heavy, count, goes.less));
        within = rw pushed (in-push kinds now frame.Left goes.within tt);
        there = (let below : left < part = is.parts.0 in omega (arith, below, goes.there));
        on = (stays ∙ goes.on.0, (let before = goes.on.1 in let on = bit_on t place.at next.at (rest place) (rest next) e in omega (arith, before, on)));
      }

      pub to_right : (t : Bool) → t ≡ true → one_bit place.at (rest place) ≡ Got t next.at (rest next) → new ≡ now ++ frame.Right ∷ [] → Goes kinds kind old from right new next
      to_right t tag e pushed = record {
        same = ap (λ l. after kinds l (read_at kinds right next)) pushed ∙ after-push kinds now frame.Right (read_at kinds right next)
            ∙ ap (λ b. after kinds now (cond b (then (read_at kinds right next) (λ v. give (Inr v))) (then (read_at kinds left next) (λ v. give (Inl v))))) (sym tag)
            ∙ ap (after kinds now) (sym (side (kind_at kinds left) (kind_at kinds right) t place.at next.at (rest place) (rest next) e))
            ∙ ap (λ k. after kinds now (read_value k place.at (rest place))) (sym is.is) ∙ goes.same;
        less = (let heavy = ap weight is.is in let count = ap (load kinds) pushed ∙ load-push kinds now frame.Right in omega (arith, heavy, count, goes.less));
        within = rw pushed (in-push kinds now frame.Right goes.within tt);
        there = (let below : right < part = is.parts.1 in omega (arith, below, goes.there));
        on = (stays ∙ goes.on.0, (let before = goes.on.1 in let on = bit_on t place.at next.at (rest place) (rest next) e in omega (arith, before, on)));
      }

    pub to_first : HasShape kinds part (shape.Product left right) → new ≡ now ++ frame.Second right ∷ [] → Goes kinds kind old from left new place
    to_first is pushed = record {
      same = ap (λ l. after kinds l (read_at kinds left place)) pushed ∙ after-push kinds now (frame.Second right) (read_at kinds left place)
          ∙ ap (λ k. after kinds now (read_value k place.at (rest place))) (sym is.is) ∙ goes.same;
      less = (let heavy = ap weight is.is in let count = ap (load kinds) pushed ∙ load-push kinds now (frame.Second right) in omega (arith, heavy, count, goes.less));
      within = rw pushed (in-push kinds now (frame.Second right) goes.within (let below : right < part = is.parts.1 in omega (arith, below, goes.there)));
      there = (let below : left < part = is.parts.0 in omega (arith, below, goes.there));
      on = goes.on;
    }

-- the way up, with a value that the frames go on with
pub record Climbs (kinds : List Kind) (kind : ℕ) (from : Place) (now : List Frame) (v : Value) (place : Place) : Type 0 where
  pub same : after kinds now (Got v place.at (rest place)) ≡ read_at kinds kind from
  pub within : AreIn kinds now
  pub on : GoesOn from place

pub begins : (kinds : List Kind) (kind : ℕ) (from : Place) (old now : List Frame) (v : Value) (place : Place) → old ≡ [] → Descends kinds kind old now v from place → GoesOn from place →
    Climbs kinds kind from now v place
begins kinds kind from old now v place none h on = record { same = h.comes ∙ ap (λ l. after kinds l (read_at kinds kind from)) none; within = h.within; on = on }

module _ (kinds : List Kind) (kind : ℕ) (from : Place) (now before : List Frame) (f : Frame) (v : Value) (place : Place) (popped : now ≡ before ++ f ∷ []) (climbs : Climbs kinds kind from now v place) where
  opened : after kinds before (in_frame kinds f v place.at (rest place)) ≡ read_at kinds kind from
  opened = sym (ap (λ l. after kinds l (Got v place.at (rest place))) popped ∙ after-push kinds before f (Got v place.at (rest place))) ∙ climbs.same

  both_in : AreIn kinds before × IsIn kinds f
  both_in = in-pop kinds before f (rw popped at climbs.within)

  fewer : load kinds now ≡ turns kinds f + load kinds before
  fewer = ap (load kinds) popped ∙ load-push kinds before f

  -- a frame that reads no more
  up : (w : Value) → in_frame kinds f v place.at (rest place) ≡ Got w place.at (rest place) → Climbs kinds kind from before w place
  up w made = record { same = ap (after kinds before) (sym made) ∙ opened; within = both_in.0; on = climbs.on }

  pub up_left : (inner : Value) → f ≡ frame.Left → inner ≡ v → Climbs kinds kind from before (Inl inner) place
  up_left inner is same = up (Inl inner) (ap (λ g. in_frame kinds g v place.at (rest place)) is ∙ ap (λ u. Got (Inl u) place.at (rest place)) (sym same))

  pub up_right : (inner : Value) → f ≡ frame.Right → inner ≡ v → Climbs kinds kind from before (Inr inner) place
  up_right inner is same = up (Inr inner) (ap (λ g. in_frame kinds g v place.at (rest place)) is ∙ ap (λ u. Got (Inr u) place.at (rest place)) (sym same))

  pub up_pair : (first : CoreValue) (left right : Value) → f ≡ frame.First first → left ≡ value_of first → right ≡ v → Climbs kinds kind from before (Pair left right) place
  up_pair first left right is one two =
      up (Pair left right) (ap (λ g. in_frame kinds g v place.at (rest place)) is
      ∙ ap (λ u. Got (Pair u v) place.at (rest place)) (sym one) ∙ ap (λ u. Got (Pair left u) place.at (rest place)) (sym two))

  pub up_less : (g : Frame) → f ≡ g → turns kinds g ≡ 1 → load kinds before < load kinds now
  up_less g is once = let worth = ap (turns kinds) is in omega (arith, worth, once, fewer)

  pub second_in : (second : ℕ) → f ≡ frame.Second second → second < length kinds
  second_in second is = rw is at both_in.1

  -- the second of a pair
  module _ (second : ℕ) (first : CoreValue) (is : f ≡ frame.Second second) (value_is : value_of first ≡ v) (mid : List Frame) (pushed : mid ≡ before ++ frame.First first ∷ []) where
    pub mid_in : AreIn kinds mid
    mid_in = rw pushed (in-push kinds before (frame.First first) both_in.0 tt)

    pub second_next : after kinds mid (read_at kinds second place) ≡ read_at kinds kind from
    second_next =
        ap (λ l. after kinds l (read_at kinds second place)) pushed ∙ after-push kinds before (frame.First first) (read_at kinds second place)
        ∙ ap (λ u. after kinds before (then (read_at kinds second place) (λ w. give (Pair u w)))) value_is
        ∙ ap (λ g. after kinds before (in_frame kinds g v place.at (rest place))) (sym is) ∙ opened

    pub again : (new : List Frame) (w : Value) (next : Place) → Descends kinds second mid new w place next → GoesOn place next → Climbs kinds kind from new w next
    again new w next h on = record {
      same = h.comes ∙ second_next;
      within = h.within;
      on = (on.0 ∙ climbs.on.0, (let one = climbs.on.1 in let two = on.1 in omega (arith, one, two)));
    }

    pub again_less : (new : List Frame) (w : Value) (next : Place) → Descends kinds second mid new w place next → load kinds new < load kinds now
    again_less new w next h =
        let count = ap (load kinds) pushed ∙ load-push kinds before (frame.First first) in
        let worth = ap (turns kinds) is in omega (arith, count, worth, fewer, h.less)
