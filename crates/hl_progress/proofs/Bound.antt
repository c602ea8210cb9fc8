-- What patterns bind: values of the types of the variables.
use Rattle.std.proofs.Common.{◌≡◌, ℕ, List, [], ◌∷◌, ◌++◌, length, map, replicate, Option, Some, refl, sym, ap, ◌∙◌, subst}
use Rattle.hl_data.specs.declared.value.HlValue.{HlValue}
use Rattle.hl_data.specs.declared.value.HlValue.TheViews.{out-HlValue}
use Rattle.hl_syntax.specs.declared.kinds.HlType.{HlType}
use Rattle.hl_syntax.specs.declared.kinds.HlType.TheOpen.{HlType-F}
use Rattle.hl_syntax.specs.declared.kinds.HlType.TheVariants as kind
use Rattle.hl_syntax.specs.declared.tree.Pattern.{Pattern}
use Rattle.hl_syntax.specs.declared.tree.PatternForm.{PatternForm, roll-PatternForm}
use Rattle.hl_syntax.specs.declared.tree.PatternForm.TheOpen.{PatternForm-F}
use Rattle.hl_syntax.specs.declared.tree.PatternForm.TheFolds.{fold-PatternForm, fold-roll-PatternForm, fold_out-Pattern, map-PatternForm}
use Rattle.hl_syntax.specs.declared.tree.PatternForm.TheVariants as patterns
use Rattle.hl_meaning.specs.Scopes as scopes
use Rattle.hl_meaning.specs.Scopes.{Binder, bound, each_bound}
use Rattle.hl_meaning.specs.Values.{beside}
use Rattle.hl_rules.specs.Places.{Scope}
use Rattle.hl_typing.specs.Patterns as rule
use Rattle.hl_typing.specs.Patterns.{Matched, PatternAt, PatternsAt, Binds}
use Rattle.hl_typing.proofs.Every.{Every}
use Rattle.hl_meaning.specs.Entries.{IsValueOf}
use Rattle.hl_progress.specs.Held.{AreValuesOf}
use Rattle.hl_progress.proofs.Fits.{opened, tuple_of, array_of}
use Rattle.hl_progress.proofs.Scopes.{ScopeFits, scope_join}

-- values of one type, as many as the type is repeated

pub repeated : (vs : List HlValue) (item : HlType) → Every (λ v. IsValueOf v item) vs → AreValuesOf vs (replicate (length vs) item)
repeated [] item h = tt
repeated (v ∷ vs) item h = (h.0, repeated vs item h.1)

-- the scope that is bound, with values of these variables' types
abbrev pub BoundTo : Scope → Option scopes.Scope → Type 0
BoundTo names found = (values : scopes.Scope) × (found ≡ Some values) × ScopeFits names values

abbrev form_bound : PatternForm → Binder
form_bound f = fold-PatternForm Binder Binder scopes.pattern_step (λ p. p.form) f

bound_as : (layer : PatternForm-F PatternForm Pattern) (form : PatternForm) → roll-PatternForm layer ≡ form → (v : HlValue) →
    form_bound form v ≡ scopes.pattern_step (map-PatternForm PatternForm Pattern Binder Binder form_bound bound layer) v
bound_as layer form is v =
    ap (λ (f : PatternForm). form_bound f v) (sym is) ∙ ap (λ (b : Binder). b v) (fold-roll-PatternForm Binder Binder scopes.pattern_step (λ p. p.form) layer)

bound_more : (names more : Scope) (one two : Option scopes.Scope) → BoundTo names one → BoundTo more two → BoundTo (names ++ more) (beside (λ first rest. first ++ rest) one two)
bound_more names more one two a b =
    (a.0 ++ b.0, ap (λ o. beside (λ first rest. first ++ rest) o two) a.1 ∙ ap (beside (λ first rest. first ++ rest) (Some a.0)) b.1, scope_join names more a.0 b.0 a.2 b.2)

abbrev Claim : Matched → Scope → Type 0
Claim (PatternAt k f) names = (v : HlValue) → IsValueOf v k → BoundTo names (form_bound f v)
Claim (PatternsAt ks ps) names = (vs : List HlValue) → AreValuesOf vs ks → BoundTo names (each_bound (map bound ps) vs)

tuple_bound : (ks : List HlType) (ps : List Pattern) (names : Scope) → Claim (PatternsAt ks ps) names → Claim (PatternAt (kind.Tuple ks) (patterns.Tuple ps)) names
tuple_bound ks ps names h v fits =
    let t = tuple_of (out-HlValue v) ks (opened v (kind.Tuple ks) (HlType-F.Tuple ks) (kind.outs-Tuple ks) fits) in
    let is = bound_as (PatternForm-F.Tuple ps) (patterns.Tuple ps) (patterns.rolls-Tuple ps) v ∙ ap (scopes.in_tuple (map bound ps)) t.is in
    subst (BoundTo names) (sym is) (h t.parts t.fit)

array_bound : (item : HlType) (count : ℕ) (ps : List Pattern) (names : Scope) → Claim (PatternsAt (replicate count item) ps) names → Claim (PatternAt (kind.Array item count) (patterns.Array ps)) names
array_bound item count ps names h v fits =
    let t = array_of (out-HlValue v) item count (opened v (kind.Array item count) (HlType-F.Array item count) (kind.outs-Array item count) fits) in
    let is = bound_as (PatternForm-F.Array ps) (patterns.Array ps) (patterns.rolls-Array ps) v ∙ ap (scopes.in_array (map bound ps)) t.is in
    subst (BoundTo names) (sym is) (h t.items (subst (λ n. AreValuesOf t.items (replicate n item)) t.many (repeated t.items item t.fit)))

pattern_bound : (p : Pattern) (v : HlValue) → bound p v ≡ form_bound p.form v
pattern_bound p v = ap (λ (b : Binder). b v) (fold_out-Pattern Binder Binder scopes.pattern_step (λ p. p.form) p)

more_bound : (k : HlType) (ks : List HlType) (p : Pattern) (ps : List Pattern) (names more : Scope) → Claim (PatternAt k p.form) names → Claim (PatternsAt ks ps) more →
    Claim (PatternsAt (k ∷ ks) (p ∷ ps)) (names ++ more)
more_bound k ks p ps names more h i [] fit = absurd fit
more_bound k ks p ps names more h i (v ∷ vs) fit =
    bound_more names more (bound p v) (each_bound (map bound ps) vs) (subst (BoundTo names) (sym (pattern_bound p v)) (h v fit.0)) (i vs fit.1)

none_bound : Claim (PatternsAt [] []) []
none_bound [] fit = ([], refl, tt)
none_bound (v ∷ vs) fit = absurd fit

binds : (m : Matched) (names : Scope) → Binds m names → Claim m names
binds m names (rule.name k word) = λ v fits.
    (record { name = word; value = v } ∷ [], bound_as (PatternForm-F.Name word) (patterns.Name word) (patterns.rolls-Name word) v, ((refl, fits), tt))
binds m names (rule.ignored k) = λ v fits. ([], bound_as PatternForm-F.Ignore patterns.Ignore patterns.rolls-Ignore v, tt)
binds m names (rule.tuple ks ps within h) = tuple_bound ks ps within (binds (PatternsAt ks ps) within h)
binds m names (rule.array item count ps within h) = array_bound item count ps within (binds (PatternsAt (replicate count item) ps) within h)
binds m names rule.no_more = none_bound
binds m names (rule.one_more k ks p ps first more h i) = more_bound k ks p ps first more (binds (PatternAt k p.form) first h) (binds (PatternsAt ks ps) more i)

-- what a pattern binds in each value of the type
pub pattern_binds : (k : HlType) (p : Pattern) (names : Scope) → Binds (PatternAt k p.form) names → (v : HlValue) → IsValueOf v k → BoundTo names (bound p v)
pattern_binds k p names h v fits = subst (BoundTo names) (sym (pattern_bound p v)) (binds (PatternAt k p.form) names h v fits)
