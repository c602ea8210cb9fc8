-- The shapes of patterns by their forms, and of the patterns of parameters.
use Rattle.std.proofs.Common.{◌≡◌, ℕ, List, [], ◌∷◌, map, refl, sym, ap, ◌∙◌}
use Rattle.hl_syntax.specs.declared.kinds.HlType.{HlType}
use Rattle.hl_syntax.specs.declared.kinds.HlType.TheVariants as kind
use Rattle.hl_syntax.specs.declared.kinds.TypedName.{TypedName}
use Rattle.hl_syntax.specs.declared.tree.Pattern.{Pattern}
use Rattle.hl_syntax.specs.declared.tree.PatternForm.{PatternForm, roll-PatternForm}
use Rattle.hl_syntax.specs.declared.tree.PatternForm.TheOpen.{PatternForm-F}
use Rattle.hl_syntax.specs.declared.tree.PatternForm.TheFolds.{fold-PatternForm, fold-roll-PatternForm, fold_out-Pattern, map-PatternForm}
use Rattle.hl_syntax.specs.declared.tree.PatternForm.TheVariants as patterns
use Rattle.simplicityhl.specs.Kinds.{form}
use Rattle.hl_terms.specs.Shapes.{Variable, Shaping, joined, each_at, in_tuple, pattern_step, pattern_shape}
use Rattle.layout_laws.specs.Laws.{AreNames, params_type, ParametersStand}

abbrev pub form_shape : PatternForm → Shaping
form_shape f = fold-PatternForm Shaping Shaping pattern_step (λ q. q.form) f

pub shape_as : (layer : PatternForm-F PatternForm Pattern) (form : PatternForm) → roll-PatternForm layer ≡ form → (k : HlType) →
    form_shape form k ≡ pattern_step (map-PatternForm PatternForm Pattern Shaping Shaping form_shape pattern_shape layer) k
shape_as layer form is k =
    ap (λ (f : PatternForm). form_shape f k) (sym is)
    ∙ ap (λ (s : Shaping). s k) (fold-roll-PatternForm Shaping Shaping pattern_step (λ q. q.form) layer)

pub shape_is : (p : Pattern) (k : HlType) → pattern_shape p k ≡ form_shape p.form k
shape_is p k = ap (λ (s : Shaping). s k) (fold_out-Pattern Shaping Shaping pattern_step (λ q. q.form) p)

pub name_shape : (word : List ℕ) (k : HlType) → form_shape (patterns.Name word) k ≡ Variable word k
name_shape word k = shape_as (PatternForm-F.Name word) (patterns.Name word) (patterns.rolls-Name word) k

pub tuple_shape : (ps : List Pattern) (ks : List HlType) → form_shape (patterns.Tuple ps) (kind.Tuple ks) ≡ joined (each_at (map pattern_shape ps) ks)
tuple_shape ps ks =
    shape_as (PatternForm-F.Tuple ps) (patterns.Tuple ps) (patterns.rolls-Tuple ps) (kind.Tuple ks)
    ∙ ap (λ x. in_tuple (map pattern_shape ps) x (form (kind.Tuple ks))) (kind.outs-Tuple ks)

each_name : (ps : List Pattern) (params : List TypedName) → AreNames ps params →
    each_at (map pattern_shape ps) (map (λ (n : TypedName). n.kind) params) ≡ map (λ (n : TypedName). Variable n.name n.kind) params
each_name [] [] named = refl
each_name [] (n ∷ names) named = absurd named
each_name (p ∷ ps) [] named = absurd named
each_name (p ∷ ps) (n ∷ names) named =
    let first : pattern_shape p n.kind ≡ Variable n.name n.kind =
    shape_is p n.kind ∙ ap (λ f. form_shape f n.kind) named.0 ∙ name_shape n.name n.kind in
    ap (λ s. s ∷ each_at (map pattern_shape ps) (map (λ (n : TypedName). n.kind) names)) first
    ∙ ap (λ l. Variable n.name n.kind ∷ l) (each_name ps names named.1)

pub parameters_stand : ParametersStand
parameters_stand p ps params is named =
    shape_is p (params_type params)
    ∙ ap (λ f. form_shape f (params_type params)) is
    ∙ tuple_shape ps (map (λ (n : TypedName). n.kind) params)
    ∙ ap joined (each_name ps params named)
