-- The paths to the names of patterns at their types.
use Rattle.std.proofs.Common.{◌≡◌, ℕ, Bool, true, false, List, [], ◌∷◌, ◌++◌, map, replicate, bytes_eq, cond, Option, Some, None, option_map, refl, sym, ap, ◌∙◌, subst}
use Rattle.std.specs.Prelude.{if◌then◌else◌}
use Rattle.hl_data.specs.declared.value.HlValue.{HlValue}
use Rattle.hl_data.specs.declared.value.HlValue.TheOpen.{HlValue-F}
use Rattle.hl_data.specs.declared.value.HlValue.TheViews.{out-HlValue}
use Rattle.hl_syntax.specs.declared.kinds.HlType.{HlType}
use Rattle.hl_syntax.specs.declared.kinds.HlType.TheVariants as kind
use Rattle.hl_syntax.specs.declared.kinds.TypedName.{TypedName}
use Rattle.hl_syntax.specs.declared.tree.Pattern.{Pattern}
use Rattle.hl_syntax.specs.declared.tree.PatternForm.{PatternForm, roll-PatternForm}
use Rattle.hl_syntax.specs.declared.tree.PatternForm.TheOpen.{PatternForm-F}
use Rattle.hl_syntax.specs.declared.tree.PatternForm.TheFolds.{fold-PatternForm, fold-roll-PatternForm, fold_out-Pattern, map-PatternForm}
use Rattle.hl_syntax.specs.declared.tree.PatternForm.TheVariants as patterns
use Rattle.hl_meaning.specs.Scopes as scopes
use Rattle.hl_meaning.specs.Scopes.{Scope, Binding, Binder, meant, bound, each_bound}
use Rattle.hl_meaning.specs.Values.{encoded, at_each}
use Rattle.hl_rules.specs.Places.{variable_type}
use Rattle.hl_typing.specs.Patterns as rule
use Rattle.hl_typing.specs.Patterns.{Matched, PatternAt, PatternsAt, Binds}
use Rattle.simplicity.specs.Tuples.{tuple_kind}
use Rattle.simplicity.specs.Types.{Value}
use Rattle.simplicityhl.specs.Kinds.{form}
use Rattle.scope_layout.specs.Paths.{Way, among, at_name, pattern_step, variable_path}
use Rattle.scope_layout.specs.Leads as leads
use Rattle.scope_layout.specs.Leads.{IsTypedWay, LeadsTo}
use Rattle.scope_layout.proofs.Encoded.{some_same, besides, form_tuple, form_array, Parts, tuple_parts, array_parts}
use Rattle.scope_layout.proofs.Joined.{first_of, found_append, TypedParts, no_typed, more_typed, typed_tuple, LeadParts, no_leads, more_leads, leads_tuple}

abbrev form_bound : PatternForm → Binder
form_bound f = fold-PatternForm Binder Binder scopes.pattern_step (λ p. p.form) f

bound_as : (layer : PatternForm-F PatternForm Pattern) (form : PatternForm) → roll-PatternForm layer ≡ form → (v : HlValue) →
    form_bound form v ≡ scopes.pattern_step (map-PatternForm PatternForm Pattern Binder Binder form_bound bound layer) v
bound_as layer form is v =
    ap (λ (f : PatternForm). form_bound f v) (sym is) ∙ ap (λ (b : Binder). b v) (fold-roll-PatternForm Binder Binder scopes.pattern_step (λ p. p.form) layer)

pattern_bound : (p : Pattern) (v : HlValue) → bound p v ≡ form_bound p.form v
pattern_bound p v = ap (λ (b : Binder). b v) (fold_out-Pattern Binder Binder scopes.pattern_step (λ p. p.form) p)

module _ (name : List ℕ) where
  abbrev form_path : PatternForm → Way
  form_path f = fold-PatternForm Way Way (pattern_step name) (λ p. p.form) f

  path_as : (layer : PatternForm-F PatternForm Pattern) (form : PatternForm) → roll-PatternForm layer ≡ form →
      form_path form ≡ pattern_step name (map-PatternForm PatternForm Pattern Way Way form_path (variable_path name) layer)
  path_as layer form is = ap form_path (sym is) ∙ fold-roll-PatternForm Way Way (pattern_step name) (λ p. p.form) layer

  pattern_path : (p : Pattern) → variable_path name p ≡ form_path p.form
  pattern_path p = fold_out-Pattern Way Way (pattern_step name) (λ p. p.form) p

  -- a name that stands alone
  named_type : (other : List ℕ) (k : HlType) (b : Bool) →
      IsTypedWay (form k) (if b then Some [] else None) (option_map (λ (n : TypedName). n.kind) (cond b (Some (record { name = other; kind = k })) None))
  named_type other k true = leads.IsTypedWay.there [] k tt refl
  named_type other k false = leads.IsTypedWay.nowhere

  named_leads : (other : List ℕ) (k : HlType) (v : HlValue) (c : Value) (b : Bool) → encoded v k ≡ Some c →
      LeadsTo c (if b then Some [] else None) (option_map (λ (n : TypedName). n.kind) (cond b (Some (record { name = other; kind = k })) None))
      (option_map (λ (n : Binding). n.value) (cond b (Some (record { name = other; value = v })) None))
  named_leads other k v c true e = leads.LeadsTo.there [] k v c e (λ w. refl)
  named_leads other k v c false e = leads.LeadsTo.nowhere

  pub name_typed : (other : List ℕ) (k : HlType) → IsTypedWay (form k) (at_name name other) (variable_type (record { name = other; kind = k } ∷ []) name)
  name_typed other k = named_type other k (bytes_eq name other)

  pub name_leads : (other : List ℕ) (k : HlType) (v : HlValue) (c : Value) → encoded v k ≡ Some c →
      LeadsTo c (at_name name other) (variable_type (record { name = other; kind = k } ∷ []) name) (meant name (record { name = other; value = v } ∷ []))
  name_leads other k v c e = named_leads other k v c (bytes_eq name other) e

  pub type_append : (names more : List TypedName) → variable_type (names ++ more) name ≡ first_of (variable_type names name) (variable_type more name)
  type_append names more = found_append (λ n. n.kind) (λ n. bytes_eq name n.name) names more

  pub meant_append : (values more : Scope) → meant name (values ++ more) ≡ first_of (meant name values) (meant name more)
  meant_append values more = found_append (λ b. b.value) (λ b. bytes_eq name b.name) values more

  -- what is shown of a pattern at a type, and of patterns at types
  abbrev Typed : Matched → List TypedName → Type 0
  Typed (PatternAt k f) names = IsTypedWay (form k) (form_path f) (variable_type names name)
  Typed (PatternsAt ks ps) names = TypedParts (map form ks) (map (variable_path name) ps) (variable_type names name)

  abbrev Leading : Matched → List TypedName → Type 0
  Leading (PatternAt k f) names = (v : HlValue) (values : Scope) (c : Value) → form_bound f v ≡ Some values → encoded v k ≡ Some c →
      LeadsTo c (form_path f) (variable_type names name) (meant name values)
  Leading (PatternsAt ks ps) names = (vs : List HlValue) (values : Scope) (cs : List Value) → each_bound (map bound ps) vs ≡ Some values → at_each (map encoded vs) ks ≡ Some cs →
      LeadParts cs (map (variable_path name) ps) (variable_type names name) (meant name values)

  tuple_typed : (f : PatternForm) (k : HlType) (ks : List HlType) (ps : List Pattern) (found : Option HlType) → form k ≡ tuple_kind (map form ks) → form_path f ≡ among (map (variable_path name) ps) →
      TypedParts (map form ks) (map (variable_path name) ps) found → IsTypedWay (form k) (form_path f) found
  tuple_typed f k ks ps found kind_is path_is h =
      subst (λ a. IsTypedWay a (form_path f) found) (sym kind_is) (subst (λ o. IsTypedWay (tuple_kind (map form ks)) o found) (sym path_is) (typed_tuple (map form ks) (map (variable_path name) ps) found h))

  tuple_leads : (f : PatternForm) (make : List HlValue → HlValue-F HlValue) (ks : List HlType) (ps : List Pattern) (names : List TypedName) (v : HlValue) (values : Scope) (c : Value) →
      form_path f ≡ among (map (variable_path name) ps) → ((vs : List HlValue) → out-HlValue v ≡ make vs → form_bound f v ≡ each_bound (map bound ps) vs) → Leading (PatternsAt ks ps) names →
      Parts make v ks c → form_bound f v ≡ Some values → LeadsTo c (form_path f) (variable_type names name) (meant name values)
  tuple_leads f make ks ps names v values c path_is bound_is h t e =
      subst (λ o. LeadsTo c o (variable_type names name) (meant name values)) (sym path_is)
      (subst (λ d. LeadsTo d (among (map (variable_path name) ps)) (variable_type names name) (meant name values)) t.core
      (leads_tuple t.cores (map (variable_path name) ps) (variable_type names name) (meant name values) (h t.parts values t.cores (sym (bound_is t.parts t.is) ∙ e) t.encodes)))

  tuple_path : (ps : List Pattern) → form_path (patterns.Tuple ps) ≡ among (map (variable_path name) ps)
  tuple_path ps = path_as (PatternForm-F.Tuple ps) (patterns.Tuple ps) (patterns.rolls-Tuple ps)

  array_path : (ps : List Pattern) → form_path (patterns.Array ps) ≡ among (map (variable_path name) ps)
  array_path ps = path_as (PatternForm-F.Array ps) (patterns.Array ps) (patterns.rolls-Array ps)

  typed : (m : Matched) (names : List TypedName) → Binds m names → Typed m names
  typed m names (rule.name k word) = subst (λ o. IsTypedWay (form k) o (variable_type (record { name = word; kind = k } ∷ []) name)) (sym (path_as (PatternForm-F.Name word) (patterns.Name word) (patterns.rolls-Name word))) (name_typed word k)
  typed m names (rule.ignored k) = subst (λ o. IsTypedWay (form k) o None) (sym (path_as PatternForm-F.Ignore patterns.Ignore patterns.rolls-Ignore)) leads.IsTypedWay.nowhere
  typed m names (rule.tuple ks ps within h) = tuple_typed (patterns.Tuple ps) (kind.Tuple ks) ks ps (variable_type within name) (form_tuple ks) (tuple_path ps) (typed (PatternsAt ks ps) within h)
  typed m names (rule.array item count ps within h) =
      tuple_typed (patterns.Array ps) (kind.Array item count) (replicate count item) ps (variable_type within name) (form_array item count) (array_path ps) (typed (PatternsAt (replicate count item) ps) within h)
  typed m names rule.no_more = no_typed
  typed m names (rule.one_more k ks p ps first more h i) =
      subst (TypedParts (map form (k ∷ ks)) (map (variable_path name) (p ∷ ps))) (sym (type_append first more))
      (more_typed (form k) (variable_path name p) (variable_type first name) (map form ks) (map (variable_path name) ps) (variable_type more name)
      (subst (λ o. IsTypedWay (form k) o (variable_type first name)) (sym (pattern_path p)) (typed (PatternAt k p.form) first h))
      (typed (PatternsAt ks ps) more i))

  one_leads : (k : HlType) (word : List ℕ) → Leading (PatternAt k (patterns.Name word)) (record { name = word; kind = k } ∷ [])
  one_leads k word v values c e f =
      let is = some_same (record { name = word; value = v } ∷ []) values (sym (bound_as (PatternForm-F.Name word) (patterns.Name word) (patterns.rolls-Name word) v) ∙ e) in
      subst (λ vs. LeadsTo c (form_path (patterns.Name word)) (variable_type (record { name = word; kind = k } ∷ []) name) (meant name vs)) is
      (subst (λ o. LeadsTo c o (variable_type (record { name = word; kind = k } ∷ []) name) (meant name (record { name = word; value = v } ∷ []))) (sym (path_as (PatternForm-F.Name word) (patterns.Name word) (patterns.rolls-Name word)))
      (name_leads word k v c f))

  none_leads : (k : HlType) → Leading (PatternAt k patterns.Ignore) []
  none_leads k v values c e f =
      let is : [] ≡ values = some_same [] values (sym (bound_as PatternForm-F.Ignore patterns.Ignore patterns.rolls-Ignore v) ∙ e) in
      subst (λ vs. LeadsTo c (form_path patterns.Ignore) None (meant name vs)) is (subst (λ o. LeadsTo c o None None) (sym (path_as PatternForm-F.Ignore patterns.Ignore patterns.rolls-Ignore)) leads.LeadsTo.nowhere)

  no_more_leads : Leading (PatternsAt [] []) []
  no_more_leads [] values cs e f = subst (λ vs. LeadParts cs [] None (meant name vs)) (some_same [] values e) (subst (λ cs. LeadParts cs [] None None) (some_same [] cs f) no_leads)
  no_more_leads (v ∷ vs) values cs e f = absurd (cc)

  one_more_leads : (k : HlType) (ks : List HlType) (p : Pattern) (ps : List Pattern) (first more : List TypedName) → Leading (PatternAt k p.form) first → Leading (PatternsAt ks ps) more →
      Leading (PatternsAt (k ∷ ks) (p ∷ ps)) (first ++ more)
  one_more_leads k ks p ps first more h i [] values cs e f = absurd (cc)
  one_more_leads k ks p ps first more h i (v ∷ vs) values cs e f =
      let b = besides (λ first rest. first ++ rest) (bound p v) (each_bound (map bound ps) vs) values e in
      let c = besides (λ v vs. v ∷ vs) (encoded v k) (at_each (map encoded vs) ks) cs f in
      let one = subst (λ o. LeadsTo c.first o (variable_type first name) (meant name b.first)) (sym (pattern_path p)) (h v b.first c.first (sym (pattern_bound p v) ∙ b.first_is) c.first_is) in
      subst (λ cs. LeadParts cs (map (variable_path name) (p ∷ ps)) (variable_type (first ++ more) name) (meant name values)) c.is
      (subst (λ vs. LeadParts (c.first ∷ c.second) (map (variable_path name) (p ∷ ps)) (variable_type (first ++ more) name) (meant name vs)) b.is
      (subst (λ o. LeadParts (c.first ∷ c.second) (map (variable_path name) (p ∷ ps)) o (meant name (b.first ++ b.second))) (sym (type_append first more))
      (subst (LeadParts (c.first ∷ c.second) (map (variable_path name) (p ∷ ps)) (first_of (variable_type first name) (variable_type more name))) (sym (meant_append b.first b.second))
      (more_leads c.first (variable_path name p) (variable_type first name) (meant name b.first) c.second (map (variable_path name) ps) (variable_type more name) (meant name b.second) one (i vs b.second c.second b.second_is c.second_is)))))

  leading : (m : Matched) (names : List TypedName) → Binds m names → Leading m names
  leading m names (rule.name k word) = one_leads k word
  leading m names (rule.ignored k) = none_leads k
  leading m names (rule.tuple ks ps within h) = λ v values c e f.
      tuple_leads (patterns.Tuple ps) HlValue-F.Tuple ks ps within v values c (tuple_path ps)
      (λ vs is. bound_as (PatternForm-F.Tuple ps) (patterns.Tuple ps) (patterns.rolls-Tuple ps) v ∙ ap (scopes.in_tuple (map bound ps)) is) (leading (PatternsAt ks ps) within h) (tuple_parts v ks c f) e
  leading m names (rule.array item count ps within h) = λ v values c e f.
      tuple_leads (patterns.Array ps) HlValue-F.Array (replicate count item) ps within v values c (array_path ps)
      (λ vs is. bound_as (PatternForm-F.Array ps) (patterns.Array ps) (patterns.rolls-Array ps) v ∙ ap (scopes.in_array (map bound ps)) is) (leading (PatternsAt (replicate count item) ps) within h) (array_parts v item count c f) e
  leading m names rule.no_more = no_more_leads
  leading m names (rule.one_more k ks p ps first more h i) = one_more_leads k ks p ps first more (leading (PatternAt k p.form) first h) (leading (PatternsAt ks ps) more i)

  pub pattern_typed : (k : HlType) (p : Pattern) (names : List TypedName) → Binds (PatternAt k p.form) names → IsTypedWay (form k) (variable_path name p) (variable_type names name)
  pattern_typed k p names h = subst (λ o. IsTypedWay (form k) o (variable_type names name)) (sym (pattern_path p)) (typed (PatternAt k p.form) names h)

  pub pattern_leads : (k : HlType) (p : Pattern) (names : List TypedName) → Binds (PatternAt k p.form) names → (v : HlValue) (values : Scope) (c : Value) → bound p v ≡ Some values → encoded v k ≡ Some c →
      LeadsTo c (variable_path name p) (variable_type names name) (meant name values)
  pattern_leads k p names h v values c e f =
      subst (λ o. LeadsTo c o (variable_type names name) (meant name values)) (sym (pattern_path p)) (leading (PatternAt k p.form) names h v values c (sym (pattern_bound p v) ∙ e) f)
