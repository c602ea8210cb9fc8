-- Codes of layers and scopes, by which proofs tell them apart.
use Rattle.std.specs.Prelude.{◌≡◌, ◌⊎◌, List, refl}
use Rattle.std.specs.Coded.{Coded, code_by, coded×, coded⊎, coded_list}
use Rattle.std.proofs.Common.{inl, inr}
use Rattle.hl_syntax.specs.contracts.kinds.HlType as kinds
use Rattle.hl_syntax.specs.contracts.kinds.TypedName as names
use Rattle.hl_syntax.specs.contracts.tree.Pattern as patterns
use Rattle.hl_syntax.specs.declared.kinds.HlType.{HlType}
use Rattle.hl_syntax.specs.declared.kinds.TypedName.{TypedName}
use Rattle.hl_syntax.specs.declared.tree.Pattern.{Pattern}
use Rattle.scope_layout.specs.Layers.{Layer, Names, Witnesses, Scopes}

abbrev Written : Type 0
Written = (Pattern × HlType) ⊎ List TypedName

abbrev written : Layer → Written
written (Names pattern kind) = inl (pattern, kind)
written (Witnesses names) = inr names

abbrev read : Written → Layer
read (inl names) = Names names.0 names.1
read (inr names) = Witnesses names

pub read-written : (layer : Layer) → read (written layer) ≡ layer
read-written (Names pattern kind) = refl
read-written (Witnesses names) = refl

abbrev pub coded_layer : Coded Layer
coded_layer = code_by Written (coded⊎ (coded× patterns.the_row.coded kinds.the_row.coded) (coded_list names.the_row.coded)) written read read-written

abbrev pub coded_scopes : Coded Scopes
coded_scopes = code_by (Layer × List Layer) (coded× coded_layer (coded_list coded_layer)) (λ s. (s.root, s.bound)) (λ p. record { root = p.0; bound = p.1 }) (λ _. refl)
