-- Matches: of two arms whose sides are for the values of a type, one takes each value of it.
use Rattle.std.proofs.Common.{◌≡◌, true, false, [], ◌∷◌, ◌++◌, Option, Some, None, refl, sym, subst}
use Rattle.hl_data.specs.declared.typed.TypedSide.{TypedSide}
use Rattle.hl_data.specs.declared.typed.TypedSide.TheVariants as sides
use Rattle.hl_data.specs.declared.value.HlValue.{HlValue}
use Rattle.hl_data.specs.declared.value.HlValue.TheOpen.{HlValue-F}
use Rattle.hl_data.specs.declared.value.HlValue.TheViews.{out-HlValue}
use Rattle.hl_syntax.specs.declared.kinds.HlType.{HlType}
use Rattle.hl_syntax.specs.declared.kinds.HlType.TheOpen.{HlType-F}
use Rattle.hl_syntax.specs.declared.kinds.HlType.TheVariants as kind
use Rattle.hl_syntax.specs.declared.tree.Pattern.{Pattern}
use Rattle.simplicity.specs.Types.{Inl, Inr}
use Rattle.hl_meaning.specs.Answer.{Answer, gives, known, stuck}
use Rattle.hl_meaning.specs.Mean.{Meaning, matched, taken, or_after}
use Rattle.hl_meaning.specs.Scopes as scopes
use Rattle.hl_meaning.specs.Values.{encoded}
use Rattle.hl_rules.specs.Places.{Scope}
use Rattle.hl_typing.specs.Patterns.{BindsOnce}
use Rattle.hl_typing.specs.Typing as rule
use Rattle.hl_typing.specs.Typing.{Sides}
use Rattle.hl_meaning.specs.Entries.{IsValueOf}
use Rattle.hl_progress.specs.Held.{Holds, HasAnswer}
use Rattle.hl_progress.proofs.Answers.{then_holds}
use Rattle.hl_progress.proofs.Bound.{pattern_binds}
use Rattle.hl_progress.proofs.Fits.{FitsLayer, opened, there_mapped}
use Rattle.hl_progress.proofs.Scopes.{ScopeFits}

-- this side takes the value, and binds values of its variables' types; the other doesn't
record Takes (one two : TypedSide) (names : Scope) (w : HlValue-F HlValue) : Type 0 where
  found : Answer scopes.Scope
  takes : taken one w ≡ Some found
  other : taken two w ≡ None
  fits : Holds (ScopeFits names) found

data OneTakes (one two : TypedSide) (names more : Scope) (w : HlValue-F HlValue) : Type 0 where
  first : Takes one two names w → OneTakes one two names more w
  second : Takes two one more w → OneTakes one two names more w

known_holds : {A : Type 0} (P : A → Type 0) (o : Option A) (x : A) → o ≡ Some x → P x → Holds P (known o)
known_holds P (Some y) x is h = let same : x ≡ y = cc in subst P same h
known_holds P None x is h = absurd (cc)

binding : (k : HlType) (p : Pattern) (names : Scope) → BindsOnce k p names → (v : HlValue) → IsValueOf v k → Holds (ScopeFits names) (known (scopes.bound p v))
binding k p names binds v fits = let b = pattern_binds k p names binds.binds v fits in known_holds (ScopeFits names) (scopes.bound p v) b.0 b.1 b.2

either_takes : (k l : HlType) (p q : Pattern) (names more : Scope) → BindsOnce k p names → BindsOnce l q more → (w : HlValue-F HlValue) → FitsLayer w (HlType-F.Either k l) →
    OneTakes (sides.Left p k) (sides.Right q l) names more w
either_takes k l p q names more b c (HlValue-F.Left v) fits = first (record { found = known (scopes.bound p v); takes = refl; other = refl; fits = binding k p names b v (there_mapped Inl (encoded v k) fits) })
either_takes k l p q names more b c (HlValue-F.Right v) fits = second (record { found = known (scopes.bound q v); takes = refl; other = refl; fits = binding l q more c v (there_mapped Inr (encoded v l) fits) })
either_takes k l p q names more b c _ fits = absurd (cc)

option_takes : (k : HlType) (p : Pattern) (names : Scope) → BindsOnce k p names → (w : HlValue-F HlValue) → FitsLayer w (HlType-F.Option k) → OneTakes sides.Nothing (sides.Some p k) [] names w
option_takes k p names b HlValue-F.Nothing fits = first (record { found = gives []; takes = refl; other = refl; fits = tt })
option_takes k p names b (HlValue-F.Some v) fits = second (record { found = known (scopes.bound p v); takes = refl; other = refl; fits = binding k p names b v (there_mapped Inr (encoded v k) fits) })
option_takes k p names b _ fits = absurd (cc)

bool_takes : (w : HlValue-F HlValue) → FitsLayer w HlType-F.Bool → OneTakes sides.False sides.True [] [] w
bool_takes (HlValue-F.Bool false) fits = first (record { found = gives []; takes = refl; other = refl; fits = tt })
bool_takes (HlValue-F.Bool true) fits = second (record { found = gives []; takes = refl; other = refl; fits = tt })
bool_takes _ fits = absurd (cc)

turn : (one two : TypedSide) (names more : Scope) (w : HlValue-F HlValue) → OneTakes one two names more w → OneTakes two one more names w
turn one two names more w (first h) = second h
turn one two names more w (second h) = first h

one_takes : (k : HlType) (one : TypedSide) (names : Scope) (two : TypedSide) (more : Scope) → Sides k one names two more → (v : HlValue) → IsValueOf v k → OneTakes one two names more (out-HlValue v)
one_takes k one names two more (rule.eithers left right p q in_left in_right b c) = λ v fits.
    either_takes left right p q in_left in_right b c (out-HlValue v) (opened v (kind.Either left right) (HlType-F.Either left right) (kind.outs-Either left right) fits)
one_takes k one names two more (rule.options item p within b) = λ v fits.
    option_takes item p within b (out-HlValue v) (opened v (kind.Option item) (HlType-F.Option item) (kind.outs-Option item) fits)
one_takes k one names two more rule.bools = λ v fits. bool_takes (out-HlValue v) (opened v kind.Bool HlType-F.Bool kind.outs-Bool fits)
one_takes k one names two more (rule.turned l other this in_other in_this h) = λ v fits.
    turn other this in_other in_this (out-HlValue v) (one_takes l other in_other this in_this h v fits)

module _ (k : HlType) (one two : TypedSide) (names more : Scope) (in_one in_two : Meaning) (values : scopes.Scope) where
  -- what an arm gives for the values that its side binds
  abbrev pub ArmHolds : Scope → Meaning → Type 0
  ArmHolds bound body = (new : scopes.Scope) → ScopeFits bound new → HasAnswer k (body (new ++ values))

  abbrev pub both_arms : HlValue-F HlValue → Answer HlValue
  both_arms w = matched (record { side = one; body = in_one } ∷ record { side = two; body = in_two } ∷ []) w values

  matched_holds : (w : HlValue-F HlValue) → OneTakes one two names more w → ArmHolds names in_one → ArmHolds more in_two → HasAnswer k (both_arms w)
  matched_holds w (first t) h i =
      subst (λ o. HasAnswer k (or_after o in_one (or_after (taken two w) in_two stuck values) values)) (sym t.takes)
      (then_holds (ScopeFits names) (λ v. IsValueOf v k) t.found (λ new. in_one (new ++ values)) t.fits h)
  matched_holds w (second t) h i =
      subst (λ o. HasAnswer k (or_after o in_one (or_after (taken two w) in_two stuck values) values)) (sym t.other)
      (subst (λ o. HasAnswer k (or_after o in_two stuck values)) (sym t.takes)
      (then_holds (ScopeFits more) (λ v. IsValueOf v k) t.found (λ new. in_two (new ++ values)) t.fits i))

  -- both arms have an answer, and so the match of a value of the type
  pub sides_hold : (matched_kind : HlType) → Sides matched_kind one names two more → ArmHolds names in_one → ArmHolds more in_two → (v : HlValue) → IsValueOf v matched_kind → HasAnswer k (both_arms (out-HlValue v))
  sides_hold matched_kind are h i v fits = matched_holds (out-HlValue v) (one_takes matched_kind one names two more are v fits) h i
