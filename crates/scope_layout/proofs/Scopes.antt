-- The paths to the names of scopes.
use Rattle.std.proofs.Common.{◌≡◌, ℕ, List, [], ◌∷◌, ◌++◌, map, Some, None, Result, Ok, Err, IfOk, sym, ap, ◌∙◌, subst}
use Rattle.hl_data.specs.declared.value.HlValue.{HlValue}
use Rattle.hl_syntax.specs.declared.kinds.HlType.{HlType}
use Rattle.hl_syntax.specs.declared.kinds.TypedName.{TypedName}
use Rattle.hl_meaning.specs.Mean.{named}
use Rattle.hl_meaning.specs.Scopes.{Scope, meant, each_bound}
use Rattle.hl_meaning.specs.Values.{encoded, at_each}
use Rattle.hl_rules.specs.Places.{variable_type}
use Rattle.simplicity.specs.Types.{Value, Pair}
use Rattle.simplicityhl.specs.Kinds.{form}
use Rattle.scope_layout.specs.Paths.{Way, at_name}
use Rattle.scope_layout.specs.Layers.{Layer, layer_kind, layer_path, kind_within, within}
use Rattle.scope_layout.specs.Leads as leads
use Rattle.scope_layout.specs.Leads.{LayerHas, Has, LayerHolds, Holds, IsTypedWay, LeadsTo, IsPath}
use Rattle.scope_layout.specs.Laws.{PathsLead}
use Rattle.scope_layout.specs.declared.bound.Sort.{Sort}
use Rattle.scope_layout.proofs.Encoded.{some_same, besides}
use Rattle.scope_layout.proofs.Joined.{first_of, typed_pair, leads_pair, TypedParts, no_typed, more_typed, typed_tuple, LeadParts, no_leads, more_leads, leads_tuple}
use Rattle.scope_layout.proofs.Patterns.{name_typed, name_leads, type_append, meant_append, pattern_typed, pattern_leads}

module _ (name : List ℕ) where
  abbrev alone : List TypedName → List Way
  alone names = map (λ w. at_name name w.name) names

  abbrev kinds : List TypedName → List HlType
  kinds names = map (λ w. w.kind) names

  -- witnesses
  witnesses_typed : (names : List TypedName) → TypedParts (map form (kinds names)) (alone names) (variable_type names name)
  witnesses_typed [] = no_typed
  witnesses_typed (n ∷ names) =
      subst (TypedParts (map form (kinds (n ∷ names))) (alone (n ∷ names))) (sym (type_append name (n ∷ []) names))
      (more_typed (form n.kind) (at_name name n.name) (variable_type (n ∷ []) name) (map form (kinds names)) (alone names) (variable_type names name) (name_typed name n.name n.kind) (witnesses_typed names))

  witnesses_lead : (names : List TypedName) (vs : List HlValue) (values : Scope) (cs : List Value) → each_bound (map named names) vs ≡ Some values → at_each (map encoded vs) (kinds names) ≡ Some cs →
      LeadParts cs (alone names) (variable_type names name) (meant name values)
  witnesses_lead [] [] values cs e f = subst (λ vs. LeadParts cs [] None (meant name vs)) (some_same [] values e) (subst (λ cs. LeadParts cs [] None None) (some_same [] cs f) no_leads)
  witnesses_lead [] (v ∷ vs) values cs e f = absurd (cc)
  witnesses_lead (n ∷ names) [] values cs e f = absurd (cc)
  witnesses_lead (n ∷ names) (v ∷ vs) values cs e f =
      let b = besides (λ first rest. first ++ rest) (named n v) (each_bound (map named names) vs) values e in
      let c = besides (λ v vs. v ∷ vs) (encoded v n.kind) (at_each (map encoded vs) (kinds names)) cs f in
      let one = record { name = n.name; value = v } ∷ [] in
      let is : one ++ b.second ≡ values = ap (λ l. l ++ b.second) (some_same one b.first b.first_is) ∙ b.is in
      subst (λ cs. LeadParts cs (alone (n ∷ names)) (variable_type (n ∷ names) name) (meant name values)) c.is
      (subst (λ vs. LeadParts (c.first ∷ c.second) (alone (n ∷ names)) (variable_type (n ∷ names) name) (meant name vs)) is
      (subst (λ o. LeadParts (c.first ∷ c.second) (alone (n ∷ names)) o (meant name (one ++ b.second))) (sym (type_append name (n ∷ []) names))
      (subst (LeadParts (c.first ∷ c.second) (alone (n ∷ names)) (first_of (variable_type (n ∷ []) name) (variable_type names name))) (sym (meant_append name one b.second))
      (more_leads c.first (at_name name n.name) (variable_type (n ∷ []) name) (meant name one) c.second (alone names) (variable_type names name) (meant name b.second)
      (name_leads name n.name n.kind v c.first c.first_is) (witnesses_lead names vs b.second c.second b.second_is c.second_is)))))

  -- a layer
  layer_typed : (s : Sort) (layer : Layer) (names : List TypedName) → LayerHas s layer names → IsTypedWay (layer_kind layer) (layer_path s name layer) (variable_type names name)
  layer_typed _ _ _ (leads.LayerHas.variables p k names h) = pattern_typed name k p names h
  layer_typed _ _ _ (leads.LayerHas.no_variables witnesses) = leads.IsTypedWay.nowhere
  layer_typed _ _ _ (leads.LayerHas.witnesses names) = typed_tuple (map form (kinds names)) (alone names) (variable_type names name) (witnesses_typed names)
  layer_typed _ _ _ (leads.LayerHas.no_witnesses p k) = leads.IsTypedWay.nowhere

  layer_leads : (s : Sort) (layer : Layer) (names : List TypedName) (values : Scope) (core : Value) → LayerHas s layer names → LayerHolds s layer values core →
      LeadsTo core (layer_path s name layer) (variable_type names name) (meant name values)
  layer_leads _ _ _ _ _ (leads.LayerHas.variables p k names h) (leads.LayerHolds.variables _ _ v values core e f) = pattern_leads name k p names h v values core e f
  layer_leads _ _ _ _ _ (leads.LayerHas.no_variables witnesses) (leads.LayerHolds.no_variables _ core) = leads.LeadsTo.nowhere
  layer_leads _ _ _ _ _ (leads.LayerHas.witnesses names) (leads.LayerHolds.witnesses _ vs values cores e f) =
      leads_tuple cores (alone names) (variable_type names name) (meant name values) (witnesses_lead names vs values cores e f)
  layer_leads _ _ _ _ _ (leads.LayerHas.no_witnesses p k) (leads.LayerHolds.no_witnesses _ _ core) = leads.LeadsTo.nowhere

  -- a scope
  module _ (s : Sort) (root : Layer) where
    abbrev way : List Layer → Way
    way layers = within (map (layer_path s name) layers) (layer_path s name root)

    scope_typed : (layers : List Layer) (names : List TypedName) → Has s root layers names → IsTypedWay (kind_within root layers) (way layers) (variable_type names name)
    scope_typed _ _ (leads.Has.at_root names h) = layer_typed s root names h
    scope_typed _ _ (leads.Has.inside layer layers names more h i) =
        subst (IsTypedWay (kind_within root (layer ∷ layers)) (way (layer ∷ layers))) (sym (type_append name names more))
        (typed_pair (layer_kind layer) (kind_within root layers) (layer_path s name layer) (way layers) (variable_type names name) (variable_type more name) (layer_typed s layer names h) (scope_typed layers more i))

    scope_leads : (layers : List Layer) (names : List TypedName) (values : Scope) (core : Value) → Has s root layers names → Holds s root layers values core → LeadsTo core (way layers) (variable_type names name) (meant name values)
    scope_leads _ _ _ _ (leads.Has.at_root names h) (leads.Holds.at_root values core i) = layer_leads s root names values core h i
    scope_leads _ _ _ _ (leads.Has.inside layer layers names more h i) (leads.Holds.inside _ _ values others core rest j k) =
        subst (λ o. LeadsTo (Pair core rest) (way (layer ∷ layers)) o (meant name (values ++ others))) (sym (type_append name names more))
        (subst (LeadsTo (Pair core rest) (way (layer ∷ layers)) (first_of (variable_type names name) (variable_type more name))) (sym (meant_append name values others))
        (leads_pair core rest (layer_path s name layer) (way layers) (variable_type names name) (variable_type more name) (meant name values) (meant name others) (layer_leads s layer names values core h j)
        (scope_leads layers more others rest i k)))

pub paths_lead : PathsLead
paths_lead s name scopes = record {
  typed = λ names h. scope_typed name s scopes.root scopes.bound names h;
  leads = λ names h values core i. scope_leads name s scopes.root scopes.bound names values core h i;
}

pub if_ok : {A E : Type 0} {P Q : A → Type 0} (r : Result A E) → ((x : A) → P x → Q x) → IfOk r P → IfOk r Q
if_ok (Ok x) f h = f x h
if_ok (Err e) f h = tt
