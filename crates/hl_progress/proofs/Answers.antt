-- What each construct gives for values of the types that it needs.
use Rattle.std.proofs.Common.{◌≡◌, ℕ, zero, suc, ◌+◌, ◌^◌, ◌<◌, ◌≤◌, true, false, List, [], ◌∷◌, Option, Some, None, refl, sym, subst, arith, IsTrue, lt-ltb}
use Rattle.hl_data.specs.declared.value.HlValue.{HlValue}
use Rattle.hl_data.specs.declared.value.HlValue.TheOpen.{HlValue-F}
use Rattle.hl_data.specs.declared.value.HlValue.TheViews.{out-HlValue}
use Rattle.hl_syntax.specs.declared.kinds.HlType.{HlType}
use Rattle.hl_syntax.specs.declared.kinds.HlType.TheOpen.{HlType-F}
use Rattle.hl_syntax.specs.declared.kinds.HlType.TheVariants as kind
use Rattle.hl_syntax.specs.declared.kinds.HlType.TheViews.{out-HlType}
use Rattle.simplicity.specs.Types.{Inl, Inr}
use Rattle.jets.specs.Unsigned.{is_width}
use Rattle.hl_meaning.specs.Answer.{Answer, gives, fails, stuck, and_then, shaped, known}
use Rattle.hl_meaning.specs.Literals.{literal_value}
use Rattle.hl_meaning.specs.Loops.{Calls, folded, counted, go_on}
use Rattle.hl_meaning.specs.Mean.{asserted, unwrapped, unwrapped_left, unwrapped_right, none_tested, number_at, empty}
use Rattle.hl_meaning.specs.Values.{encoded, word_at, word_of}
use Rattle.hl_rules.specs.Same.{unit_type}
use Rattle.hl_meaning.specs.Entries.{IsValueOf}
use Rattle.hl_progress.specs.Held.{Holds, HasAnswer}
use Rattle.hl_typing.proofs.Every.{Every}
use Rattle.hl_progress.proofs.Fits.{FitsLayer, opened, there_mapped, bool_fits, word_fits, tuple_fits, left_fits, right_fits}

pub then_holds : {A B : Type 0} (P : A → Type 0) (Q : B → Type 0) (a : Answer A) (f : A → Answer B) → Holds P a → ((x : A) → P x → Holds Q (f x)) → Holds Q (and_then a f)
then_holds P Q (gives x) f h k = k x h
then_holds P Q fails f h k = tt
then_holds P Q stuck f h k = h

-- after a part with an answer of a type
pub value_then : (k l : HlType) (a : Answer HlValue) (f : HlValue → Answer HlValue) → HasAnswer k a → ((v : HlValue) → IsValueOf v k → HasAnswer l (f v)) → HasAnswer l (and_then a f)
value_then k l (gives x) f h g = g x h
value_then k l fails f h g = tt
value_then k l stuck f h g = h

-- what is known
pub known_then : {A B : Type 0} (Q : B → Type 0) (o : Option A) (x : A) (f : A → Answer B) → o ≡ Some x → Holds Q (f x) → Holds Q (and_then (known o) f)
known_then Q (Some y) x f is h = let same : x ≡ y = cc in subst (λ z. Holds Q (f z)) same h
known_then Q None x f is h = absurd (cc)

pub known_value : (k : HlType) (o : Option HlValue) (v : HlValue) → o ≡ Some v → IsValueOf v k → HasAnswer k (known o)
known_value k (Some u) v is h = let same : v ≡ u = cc in subst (λ z. IsValueOf z k) same h
known_value k None v is h = absurd (cc)

pub shaped_then : {A B : Type 0} (Q : B → Type 0) (o : Option A) (x : A) (f : A → Answer B) → o ≡ Some x → Holds Q (f x) → Holds Q (shaped o f)
shaped_then Q (Some y) x f is h = let same : x ≡ y = cc in subst (λ z. Holds Q (f z)) same h
shaped_then Q None x f is h = absurd (cc)

pub unit_fits : IsValueOf empty unit_type
unit_fits = tuple_fits [] unit_type [] (kind.outs-Tuple []) tt

pub asserted_holds : (w : HlValue-F HlValue) → FitsLayer w HlType-F.Bool → HasAnswer unit_type (asserted w)
asserted_holds (HlValue-F.Bool true) h = unit_fits
asserted_holds (HlValue-F.Bool false) h = tt
asserted_holds _ h = absurd (cc)

pub unwrapped_holds : (w : HlValue-F HlValue) (k : HlType) → FitsLayer w (HlType-F.Option k) → HasAnswer k (unwrapped w)
unwrapped_holds (HlValue-F.Some v) k h = there_mapped Inr (encoded v k) h
unwrapped_holds HlValue-F.Nothing k h = tt
unwrapped_holds _ k h = absurd (cc)

pub left_holds : (w : HlValue-F HlValue) (k l : HlType) → FitsLayer w (HlType-F.Either k l) → HasAnswer k (unwrapped_left w)
left_holds (HlValue-F.Left v) k l h = there_mapped Inl (encoded v k) h
left_holds (HlValue-F.Right v) k l h = tt
left_holds _ k l h = absurd (cc)

pub right_holds : (w : HlValue-F HlValue) (k l : HlType) → FitsLayer w (HlType-F.Either l k) → HasAnswer k (unwrapped_right w)
right_holds (HlValue-F.Right v) k l h = there_mapped Inr (encoded v k) h
right_holds (HlValue-F.Left v) k l h = tt
right_holds _ k l h = absurd (cc)

pub tested_holds : (w : HlValue-F HlValue) (k : HlType) → FitsLayer w (HlType-F.Option k) → HasAnswer kind.Bool (none_tested w)
tested_holds HlValue-F.Nothing k h = bool_fits true
tested_holds (HlValue-F.Some v) k h = bool_fits false
tested_holds _ k h = absurd (cc)

pub literal_holds : (width : ℕ) (word : List ℕ) → IsTrue (is_width width) → literal_value word < 2 ^ width → HasAnswer (kind.UInt width) (number_at (out-HlType (kind.UInt width)) word)
literal_holds width word sound less =
    subst (λ x. HasAnswer (kind.UInt width) (number_at x word)) (sym (kind.outs-UInt width))
    (known_value (kind.UInt width) (word_at width (literal_value word)) (word_of width (literal_value word)) (rw (sound, lt-ltb (literal_value word) (2 ^ width) less) refl)
    (word_fits width (literal_value word) (kind.UInt width) (kind.outs-UInt width) less))

-- Loops.

pub folded_holds : (f : Calls) (item total : HlType) (items : List HlValue) (made : HlValue) → ((v m : HlValue) → IsValueOf v item → IsValueOf m total → HasAnswer total (f (v ∷ m ∷ []))) →
    Every (λ v. IsValueOf v item) items → IsValueOf made total → HasAnswer total (folded f items made)
folded_holds f item total [] made calls fit start = start
folded_holds f item total (v ∷ items) made calls fit start =
    value_then total total (f (v ∷ made ∷ [])) _ (calls v made fit.0 start) (λ m h. folded_holds f item total items m calls fit.1 h)

went_on : (result left total : HlType) (next : HlValue → Answer HlValue) → out-HlType result ≡ HlType-F.Either left total → ((v : HlValue) → IsValueOf v total → HasAnswer result (next v)) →
    (w : HlValue-F HlValue) → FitsLayer w (HlType-F.Either left total) → HasAnswer result (go_on next w)
went_on result left total next is g (HlValue-F.Left v) h = left_fits v result left total is (there_mapped Inl (encoded v left) h)
went_on result left total next is g (HlValue-F.Right v) h = g v (there_mapped Inr (encoded v total) h)
went_on result left total next is g _ h = absurd (cc)

pub counted_holds : (f : Calls) (width : ℕ) (result left total : HlType) (context : HlValue) (turns counter : ℕ) (made : HlValue) → out-HlType result ≡ HlType-F.Either left total →
    ((m : HlValue) (n : ℕ) → n < 2 ^ width → IsValueOf m total → HasAnswer result (f (m ∷ context ∷ word_of width n ∷ []))) → counter + turns ≤ 2 ^ width → IsValueOf made total →
    HasAnswer result (counted f width context turns counter made)
counted_holds f width result left total context zero counter made is calls few start = right_fits made result left total is start
counted_holds f width result left total context (suc turns) counter made is calls few start =
    value_then result result (f (made ∷ context ∷ word_of width counter ∷ [])) _ (calls made counter (omega (arith, few)) start)
    (λ v h. went_on result left total (counted f width context turns (counter + 1)) is
    (λ m fits. counted_holds f width result left total context turns (counter + 1) m is calls (omega (arith, few)) fits)
    (out-HlValue v) (opened v result (HlType-F.Either left total) is h))
