-- What is left of a loop, before and after a turn.
use Rattle.std.proofs.Common.{◌≡◌, ℕ, zero, suc, ◌+◌, ◌-◌, ◌*◌, ◌%◌, ◌^◌, ◌<◌, ◌≤◌, Bool, true, if◌then◌else◌, List, [], ◌∷◌, ◌++◌, false, length, map, drop, Option, Some, None, refl, sym, ap, ◌∙◌, subst, arith, append_assoc, append-nil}
use Rattle.std.proofs.Math.Pow.{pow-lt}
use Rattle.std.specs.Prelude.{slice_get, is_some, IsTrue}
use Rattle.hl_data.specs.declared.typed.TypedArm.{TypedArm, out-TypedArm}
use Rattle.hl_data.specs.declared.value.HlValue.{HlValue}
use Rattle.hl_data.specs.declared.value.HlValue.TheOpen.{HlValue-F}
use Rattle.hl_meaning.specs.Answer.{Answer, gives, fails, stuck, and_then, known}
use Rattle.hl_meaning.specs.Scopes.{Scope}
use Rattle.hl_meaning.specs.Loops.{Calls, folded, counted, go_on, is_counter_width}
use Rattle.hl_meaning.specs.Values.{word_of}
use Rattle.hl_data.specs.declared.value.HlValue.TheVariants as value
use Rattle.hl_data.specs.declared.value.HlValue.TheViews.{out-HlValue}
use Rattle.hl_meaning.specs.Mean.{Meaning, StatementMeaning, ArmMeaning, all_in, block_of, last_of, matched, or_after, taken}
use Rattle.hl_eval.specs.Over.{IsOver}
use Rattle.hl_eval.specs.Outcome.{HasFault, Continues, Stops}
use Rattle.hl_eval.specs.Turned.{turned}
use Rattle.hl_eval.specs.declared.turn.Turn.{Turn}
use Rattle.hl_eval.specs.declared.turn.Turn.TheVariants as turn
use Rattle.std.proofs.lemmas.Bool.Decides.{nat_tests}
use Rattle.hl_eval.specs.declared.fault.EvalFault.TheVariants as fault
use Rattle.hl_eval.specs.declared.fault.EvalFault.{EvalFault}
use Rattle.hl_eval.proofs.Exits.{after_fault}

pub drop_at : {X : Type 0} (xs : List X) (i : ℕ) (x : X) → slice_get xs i ≡ Some x → drop i xs ≡ x ∷ drop (i + 1) xs
drop_at [] i x e = cc
drop_at (y ∷ xs) zero x e = let same : y ≡ x = cc in ap (λ z. z ∷ xs) same
drop_at (y ∷ xs) (suc i) x e = drop_at xs i x e ∙ ap (λ k. x ∷ drop k (y ∷ xs)) (let m : suc (i + 1) ≡ suc i + 1 = omega arith in m)

pub drop_past : {X : Type 0} (xs : List X) (i : ℕ) → length xs ≤ i → drop i xs ≡ []
drop_past [] zero h = refl
drop_past [] (suc i) h = refl
drop_past (x ∷ xs) zero h = absurd (omega arith)
drop_past (x ∷ xs) (suc i) h = drop_past xs i (omega arith)

-- Parts, each in the same scope.

and_then_nested : {A B C : Type 0} (a : Answer A) (f : A → Answer B) (g : B → Answer C) → and_then (and_then a f) g ≡ and_then a (λ x. and_then (f x) g)
and_then_nested (gives x) f g = refl
and_then_nested fails f g = refl
and_then_nested stuck f g = refl

joined : (a : Answer (List HlValue)) (made : List HlValue) (v : HlValue) → and_then (and_then a (λ vs. gives (v ∷ vs))) (λ vs. gives (made ++ vs)) ≡ and_then a (λ vs. gives ((made ++ v ∷ []) ++ vs))
joined (gives vs) made v = ap gives (sym (append_assoc made (v ∷ []) vs))
joined fails made v = refl
joined stuck made v = refl

nothing_made : (a : Answer (List HlValue)) → a ≡ and_then a (λ vs. gives ([] ++ vs))
nothing_made (gives vs) = refl
nothing_made fails = refl
nothing_made stuck = refl

module _ {X : Type 0} (mean : X → Meaning) where
  pub record Parts (xs : List X) (i : ℕ) (made : List HlValue) (now was : Scope) : Type 0 where
    pub scope : now ≡ was
    pub same : all_in (map mean xs) was ≡ and_then (all_in (map mean (drop i xs)) was) (λ vs. gives (made ++ vs))

  pub parts_first : (xs : List X) (made : List HlValue) (was : Scope) → made ≡ [] → Parts xs 0 made was was
  parts_first xs made was e = record { scope = refl; same = nothing_made (all_in (map mean xs) was) ∙ ap (λ m. and_then (all_in (map mean xs) was) (λ vs. gives (m ++ vs))) (sym e) }

  parts_at : (xs : List X) (i : ℕ) (made : List HlValue) (x : X) (now was : Scope) → Parts xs i made now was → slice_get xs i ≡ Some x →
      all_in (map mean xs) was ≡ and_then (mean x now) (λ v. and_then (all_in (map mean (drop (i + 1) xs)) was) (λ vs. gives ((made ++ v ∷ []) ++ vs)))
  parts_at xs i made x now was p at =
      p.same ∙ ap (λ ys. and_then (all_in (map mean ys) was) (λ vs. gives (made ++ vs))) (drop_at xs i x at)
      ∙ and_then_nested (mean x was) (λ v. and_then (all_in (map mean (drop (i + 1) xs)) was) (λ vs. gives (v ∷ vs))) (λ vs. gives (made ++ vs))
      ∙ each (mean x was)
      ∙ ap (λ s. and_then (mean x s) (λ v. and_then (all_in (map mean (drop (i + 1) xs)) was) (λ vs. gives ((made ++ v ∷ []) ++ vs)))) (sym p.scope) where
        each : (a : Answer HlValue) → and_then a (λ v. and_then (and_then (all_in (map mean (drop (i + 1) xs)) was) (λ vs. gives (v ∷ vs))) (λ vs. gives (made ++ vs)))
            ≡ and_then a (λ v. and_then (all_in (map mean (drop (i + 1) xs)) was) (λ vs. gives ((made ++ v ∷ []) ++ vs)))
        each (gives v) = joined (all_in (map mean (drop (i + 1) xs)) was) made v
        each fails = refl
        each stuck = refl

  pub parts_next : (xs : List X) (i : ℕ) (made more : List HlValue) (x : X) (v : HlValue) (now then_ was : Scope) → Parts xs i made now was → slice_get xs i ≡ Some x → mean x now ≡ gives v → then_ ≡ now →
      more ≡ made ++ v ∷ [] → Parts xs (i + 1) more then_ was
  parts_next xs i made more x v now then_ was p at m s e =
      record {
        scope = s ∙ p.scope;
        same = parts_at xs i made x now was p at ∙ ap (λ a. and_then a (λ w. and_then (all_in (map mean (drop (i + 1) xs)) was) (λ vs. gives ((made ++ w ∷ []) ++ vs)))) m
            ∙ ap (λ l. and_then (all_in (map mean (drop (i + 1) xs)) was) (λ vs. gives (l ++ vs))) (sym e);
      }

  pub parts_fault : (xs : List X) (i : ℕ) (made : List HlValue) (x : X) (e : EvalFault) (now was : Scope) → Parts xs i made now was → slice_get xs i ≡ Some x → HasFault (mean x now) e → HasFault (all_in (map mean xs) was) e
  parts_fault xs i made x e now was p at h =
      subst (λ a. HasFault a e) (sym (parts_at xs i made x now was p at)) (after_fault (mean x now) (λ v. and_then (all_in (map mean (drop (i + 1) xs)) was) (λ vs. gives ((made ++ v ∷ []) ++ vs))) e h)

  pub parts_all : (xs : List X) (i : ℕ) (made : List HlValue) (now was : Scope) → Parts xs i made now was → length xs ≤ i → all_in (map mean xs) was ≡ gives made
  parts_all xs i made now was p past =
      p.same ∙ ap (λ ys. and_then (all_in (map mean ys) was) (λ vs. gives (made ++ vs))) (drop_past xs i past) ∙ ap gives (append-nil made)

-- Statements, each in the scope that those before it leave.

drop_none : {X : Type 0} (k : ℕ) → drop {A = X} k [] ≡ []
drop_none zero = refl
drop_none (suc k) = refl

drop_more : {X : Type 0} (n m : ℕ) (xs : List X) → drop n (drop m xs) ≡ drop (n + m) xs
drop_more n zero xs = ap (λ k. drop k xs) (let e : n ≡ n + 0 = omega arith in e)
drop_more n (suc m) [] = drop_none n ∙ sym (drop_none (n + suc m))
drop_more n (suc m) (x ∷ xs) = drop_more n m xs ∙ ap (λ k. drop k (x ∷ xs)) (let e : suc (n + m) ≡ n + suc m = omega arith in e)

pub over_self : (s : Scope) → IsOver s s
over_self s = record { longer = omega arith; ends = ap (λ k. drop k s) (let e : length s - length s ≡ 0 = omega arith in e) }

pub over_through : (a b c : Scope) → IsOver b a → IsOver c b → IsOver c a
over_through a b c over upper =
    let l = over.longer in let m = upper.longer in
    let many : length c - length a ≡ (length b - length a) + (length c - length b) = omega arith in
    record { longer = omega arith; ends = ap (λ k. drop k c) many ∙ sym (drop_more (length b - length a) (length c - length b) c) ∙ ap (drop (length b - length a)) upper.ends ∙ over.ends }

module _ {X : Type 0} (mean : X → StatementMeaning) where
  pub record Statements (xs : List X) (i : ℕ) (last : Option Meaning) (now was : Scope) : Type 0 where
    pub over : IsOver now was
    pub same : block_of (map mean xs) last was ≡ block_of (map mean (drop i xs)) last now

  pub statements_first : (xs : List X) (last : Option Meaning) (was : Scope) → Statements xs 0 last was was
  statements_first xs last was = record { over = over_self was; same = refl }

  pub statements_next : (xs : List X) (i : ℕ) (last : Option Meaning) (x : X) (now then_ was : Scope) → Statements xs i last now was → slice_get xs i ≡ Some x → Continues (mean x) now then_ → Statements xs (i + 1) last then_ was
  statements_next xs i last x now then_ was p at c =
      record {
        over = over_through was now then_ p.over c.over;
        same = p.same ∙ ap (λ ys. block_of (map mean ys) last now) (drop_at xs i x at) ∙ c.next (block_of (map mean (drop (i + 1) xs)) last);
      }

  pub statements_fault : (xs : List X) (i : ℕ) (last : Option Meaning) (x : X) (e : EvalFault) (now was : Scope) → Statements xs i last now was → slice_get xs i ≡ Some x → Stops (mean x) now e → HasFault (block_of (map mean xs) last was) e
  statements_fault xs i last x e now was p at s =
      subst (λ a. HasFault a e) (sym (p.same ∙ ap (λ ys. block_of (map mean ys) last now) (drop_at xs i x at))) (s.fault (block_of (map mean (drop (i + 1) xs)) last))

  pub statements_all : (xs : List X) (i : ℕ) (last : Option Meaning) (now was : Scope) → Statements xs i last now was → length xs ≤ i → block_of (map mean xs) last was ≡ last_of last now
  statements_all xs i last now was p past = p.same ∙ ap (λ ys. block_of (map mean ys) last now) (drop_past xs i past)

-- Arms, of which the first that takes the value is evaluated.

pub or_after_any : (o : _) (body : Meaning) (a b : Answer HlValue) (scope : Scope) → IsTrue (is_some o) → or_after o body a scope ≡ or_after o body b scope
or_after_any None body a b scope h = absurd (cc)
or_after_any (Some found) body a b scope h = refl

or_after_none : (o : _) (body : Meaning) (a : Answer HlValue) (scope : Scope) → is_some o ≡ false → or_after o body a scope ≡ a
or_after_none None body a scope h = refl
or_after_none (Some found) body a scope h = absurd (cc)

module _ (mean : TypedArm → ArmMeaning) (side_is : (x : TypedArm) → (mean x).side ≡ (out-TypedArm x).side) where
  pub record Arms (xs : List TypedArm) (i : ℕ) (v : HlValue-F HlValue) (now was : Scope) : Type 0 where
    pub scope : now ≡ was
    pub same : matched (map mean xs) v was ≡ matched (map mean (drop i xs)) v was

  pub arms_first : (xs : List TypedArm) (v : HlValue-F HlValue) (was : Scope) → Arms xs 0 v was was
  arms_first xs v was = record { scope = refl; same = refl }

  pub arms_at : (xs : List TypedArm) (i : ℕ) (v : HlValue-F HlValue) (x : TypedArm) (now was : Scope) → Arms xs i v now was → slice_get xs i ≡ Some x →
      matched (map mean xs) v was ≡ or_after (taken (out-TypedArm x).side v) (mean x).body (matched (map mean (drop (i + 1) xs)) v was) was
  arms_at xs i v x now was p at =
      p.same ∙ ap (λ ys. matched (map mean ys) v was) (drop_at xs i x at)
      ∙ ap (λ s. or_after (taken s v) (mean x).body (matched (map mean (drop (i + 1) xs)) v was) was) (side_is x)

  pub arms_next : (xs : List TypedArm) (i : ℕ) (v : HlValue-F HlValue) (x : TypedArm) (now then_ was : Scope) → Arms xs i v now was → slice_get xs i ≡ Some x → is_some (taken (out-TypedArm x).side v) ≡ false → then_ ≡ now → Arms xs (i + 1) v then_ was
  arms_next xs i v x now then_ was p at h e =
      record { scope = e ∙ p.scope; same = arms_at xs i v x now was p at ∙ or_after_none (taken (out-TypedArm x).side v) (mean x).body (matched (map mean (drop (i + 1) xs)) v was) was h }

  pub arms_taken : (xs : List TypedArm) (i : ℕ) (v : HlValue-F HlValue) (x : TypedArm) (now was : Scope) → Arms xs i v now was → slice_get xs i ≡ Some x → IsTrue (is_some (taken (out-TypedArm x).side v)) →
      matched (map mean xs) v was ≡ or_after (taken (out-TypedArm x).side v) (mean x).body stuck now
  arms_taken xs i v x now was p at h =
      arms_at xs i v x now was p at ∙ or_after_any (taken (out-TypedArm x).side v) (mean x).body (matched (map mean (drop (i + 1) xs)) v was) stuck was h
      ∙ ap (or_after (taken (out-TypedArm x).side v) (mean x).body stuck) (sym p.scope)

  pub arms_none : (xs : List TypedArm) (i : ℕ) (v : HlValue-F HlValue) (now was : Scope) → Arms xs i v now was → length xs ≤ i → matched (map mean xs) v was ≡ stuck
  arms_none xs i v now was p past = p.same ∙ ap (λ ys. matched (map mean ys) v was) (drop_past xs i past)

abbrev pub goes_on : (HlValue → Answer HlValue) → Turn → Answer HlValue
goes_on next (turn.Last w) = gives (value.Left w)
goes_on next (turn.Next w) = next w

shape_turn : (next : HlValue → Answer HlValue) (v : HlValue-F HlValue) (t : Turn) → turned v ≡ gives t → go_on next v ≡ goes_on next t
shape_turn next (HlValue-F.Left w) t h = let e : turn.Last w ≡ t = cc in ap (goes_on next) e
shape_turn next (HlValue-F.Right w) t h = let e : turn.Next w ≡ t = cc in ap (goes_on next) e
shape_turn next _ t h = absurd (cc)

after_turn : (next : HlValue → Answer HlValue) (a : Answer HlValue) (t : Turn) → and_then a (λ v. turned (out-HlValue v)) ≡ gives t → and_then a (λ v. go_on next (out-HlValue v)) ≡ goes_on next t
after_turn next (gives v) t h = shape_turn next (out-HlValue v) t h
after_turn next fails t h = absurd (cc)
after_turn next stuck t h = absurd (cc)

shape_fault : (next : HlValue → Answer HlValue) (v : HlValue-F HlValue) (e : EvalFault) → HasFault (turned v) e → HasFault (go_on next v) e
shape_fault next (HlValue-F.Left w) fault.Failed h = absurd (cc)
shape_fault next (HlValue-F.Left w) fault.NoAnswer h = absurd (cc)
shape_fault next (HlValue-F.Right w) fault.Failed h = absurd (cc)
shape_fault next (HlValue-F.Right w) fault.NoAnswer h = absurd (cc)
shape_fault next v fault.OutOfMemory h = tt
shape_fault next _ fault.Failed h = absurd (cc)
shape_fault next _ fault.NoAnswer h = refl

fault_turn : (next : HlValue → Answer HlValue) (a : Answer HlValue) (e : EvalFault) → HasFault (and_then a (λ v. turned (out-HlValue v))) e → HasFault (and_then a (λ v. go_on next (out-HlValue v))) e
fault_turn next (gives v) e h = shape_fault next (out-HlValue v) e h
fault_turn next fails fault.Failed h = refl
fault_turn next fails fault.NoAnswer h = absurd (cc)
fault_turn next stuck fault.Failed h = absurd (cc)
fault_turn next stuck fault.NoAnswer h = refl
fault_turn next a fault.OutOfMemory h = tt

-- Loops, by what their function gives.

module _ (f : Calls) where
  pub fold_next : (item : HlValue) (items : List HlValue) (made v : HlValue) → f (item ∷ made ∷ []) ≡ gives v → folded f (item ∷ items) made ≡ folded f items v
  fold_next item items made v h = ap (λ a. and_then a (folded f items)) h

  pub fold_fault : (item : HlValue) (items : List HlValue) (made : HlValue) (e : EvalFault) → HasFault (f (item ∷ made ∷ [])) e → HasFault (folded f (item ∷ items) made) e
  fold_fault item items made e h = after_fault (f (item ∷ made ∷ [])) (folded f items) e h

  module _ (width turns counter : ℕ) (context made : HlValue) where
    -- what a turn comes to, before the turns after it
    pub turn_step : (t : Turn) → and_then (f (made ∷ context ∷ word_of width counter ∷ [])) (λ v. turned (out-HlValue v)) ≡ gives t →
        counted f width context (suc turns) counter made ≡ goes_on (counted f width context turns (counter + 1)) t
    turn_step t h = after_turn (counted f width context turns (counter + 1)) (f (made ∷ context ∷ word_of width counter ∷ [])) t h

    pub turn_fault : (e : EvalFault) → HasFault (and_then (f (made ∷ context ∷ word_of width counter ∷ [])) (λ v. turned (out-HlValue v))) e → HasFault (counted f width context (suc turns) counter made) e
    turn_fault e h = fault_turn (counted f width context turns (counter + 1)) (f (made ∷ context ∷ word_of width counter ∷ [])) e h

-- a counter's number
pub counter_is : (b : Bool) (x v : HlValue) → known (if b then Some x else None) ≡ gives v → x ≡ v
counter_is true x v h = cc
counter_is false x v h = absurd (cc)

pub counter_small : (width : ℕ) → IsTrue (is_counter_width width) → width < 17
counter_small width h = grind (arith, nat_tests)

pub shift_fits : (width : ℕ) → width < 17 → (1 * 2 ^ width) % 4294967296 ≡ 2 ^ width
shift_fits width small = let fits : 2 ^ width < 2 ^ 17 = pow-lt small in omega arith
