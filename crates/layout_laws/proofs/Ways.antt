-- The way to a name in a pattern, or among witnesses, is that in its shape.
use Rattle.std.proofs.Common.{◌≡◌, ℕ, zero, suc, Bool, true, false, List, [], ◌∷◌, ◌++◌, length, map, replicate, bytes_eq, Some, None, refl, sym, ap, ◌∙◌, arith}
use Rattle.std.specs.Prelude.{if◌then◌else◌}
use Rattle.std.proofs.lemmas.List.{length-replicate}
use Rattle.hl_syntax.specs.declared.kinds.HlType.{HlType}
use Rattle.hl_syntax.specs.declared.kinds.HlType.TheVariants as kind
use Rattle.hl_syntax.specs.declared.kinds.TypedName.{TypedName}
use Rattle.hl_syntax.specs.declared.tree.Pattern.{Pattern}
use Rattle.hl_syntax.specs.declared.tree.PatternForm.{PatternForm, roll-PatternForm}
use Rattle.hl_syntax.specs.declared.tree.PatternForm.TheOpen.{PatternForm-F}
use Rattle.hl_syntax.specs.declared.tree.PatternForm.TheFolds.{fold-PatternForm, fold-roll-PatternForm, fold_out-Pattern, map-PatternForm}
use Rattle.hl_syntax.specs.declared.tree.PatternForm.TheVariants as patterns
use Rattle.simplicity.proofs.Tuples.{halves_map}
use Rattle.simplicity.specs.Tuples.{halves}
use Rattle.simplicity.specs.Types.{One}
use Rattle.simplicityhl.specs.Kinds.{form}
use Rattle.hl_rules.specs.Places.{Scope}
use Rattle.hl_typing.specs.Patterns as rule
use Rattle.hl_typing.specs.Patterns.{Matched, PatternAt, PatternsAt, Binds}
use Rattle.hl_terms.specs.Paths.{first_steps, path_of, witness_path_of}
use Rattle.hl_terms.specs.Shapes.{Shape, Ignored, Variable, Witness, Both, Shaping, joined, each_at, in_array, pattern_shape, witnesses_shape, variables_of, witnesses_of}
use Rattle.scope_layout.specs.Paths.{Way, among, at_name, in_either, pattern_step, variable_path, witness_path}
use Rattle.scope_layout.specs.declared.bound.Sort.{Sort}
use Rattle.scope_layout.specs.declared.bound.Sort.TheVariants as sort
use Rattle.layout_laws.specs.Scopes.{steps_of, steps_to}
use Rattle.layout_laws.proofs.Shapes.{form_shape, shape_as, shape_is, name_shape, tuple_shape}

-- two parts, and several by halves
pub either_steps : (one two : Way) → steps_of (in_either one two) ≡ first_steps (steps_of one) (steps_of two)
either_steps (Some path) two = refl
either_steps None (Some path) = refl
either_steps None None = refl

pub both_steps : (s : Sort) (name : List ℕ) (a b : Shape) → steps_to s name (Both a b) ≡ first_steps (steps_to s name a) (steps_to s name b)
both_steps sort.Variable name a b = refl
both_steps sort.Witness name a b = refl

none_steps : (s : Sort) (name : List ℕ) → steps_to s name (Ignored One) ≡ None
none_steps sort.Variable name = refl
none_steps sort.Witness name = refl

pub joined_steps : (s : Sort) (name : List ℕ) (ways : List Way) (parts : List Shape) → map steps_of ways ≡ map (steps_to s name) parts →
    steps_of (among ways) ≡ steps_to s name (joined parts)
joined_steps s name ways parts same =
    halves_map steps_of None in_either None first_steps refl either_steps ways
    ∙ ap (λ l. halves (length l) None first_steps l) same
    ∙ sym (halves_map (steps_to s name) (Ignored One) Both None first_steps (none_steps s name) (both_steps s name) parts)

-- where nothing of a sort stands, there is no way
nothing_first : {A : Type 0} (xs ys : List A) → xs ++ ys ≡ [] → xs ≡ []
nothing_first [] ys h = refl
nothing_first (x ∷ xs) ys h = absurd (cc)

nothing_second : {A : Type 0} (xs ys : List A) → xs ++ ys ≡ [] → ys ≡ []
nothing_second [] ys h = h
nothing_second (x ∷ xs) ys h = absurd (cc)

pub no_variable : (name : List ℕ) (s : Shape) → variables_of s ≡ [] → path_of name s ≡ None
no_variable name (Ignored k) h = refl
no_variable name (Variable n k) h = absurd (cc)
no_variable name (Witness n k) h = refl
no_variable name (Both a b) h =
    ap (λ o. first_steps o (path_of name b)) (no_variable name a (nothing_first (variables_of a) (variables_of b) h))
    ∙ ap (first_steps None) (no_variable name b (nothing_second (variables_of a) (variables_of b) h))

pub no_witness : (name : List ℕ) (s : Shape) → witnesses_of s ≡ [] → witness_path_of name s ≡ None
no_witness name (Ignored k) h = refl
no_witness name (Variable n k) h = refl
no_witness name (Witness n k) h = absurd (cc)
no_witness name (Both a b) h =
    ap (λ o. first_steps o (witness_path_of name b)) (no_witness name a (nothing_first (witnesses_of a) (witnesses_of b) h))
    ∙ ap (first_steps None) (no_witness name b (nothing_second (witnesses_of a) (witnesses_of b) h))

each_item : (ps : List Pattern) (item : HlType) (count : ℕ) → length ps ≡ count →
    each_at (map pattern_shape ps) (replicate count item) ≡ map (λ (p : Shaping). p item) (map pattern_shape ps)
each_item [] item zero long = refl
each_item [] item (suc count) long = absurd (omega (arith, long))
each_item (p ∷ ps) item zero long = absurd (omega (arith, long))
each_item (p ∷ ps) item (suc count) long = ap (λ l. pattern_shape p item ∷ l) (each_item ps item count (omega (arith, long)))

alone : (b : Bool) → steps_of (if b then Some [] else None) ≡ (if b then Some [] else None)
alone true = refl
alone false = refl

module _ (name : List ℕ) where
  abbrev form_path : PatternForm → Way
  form_path f = fold-PatternForm Way Way (pattern_step name) (λ p. p.form) f

  path_as : (layer : PatternForm-F PatternForm Pattern) (form : PatternForm) → roll-PatternForm layer ≡ form →
      form_path form ≡ pattern_step name (map-PatternForm PatternForm Pattern Way Way form_path (variable_path name) layer)
  path_as layer form is = ap form_path (sym is) ∙ fold-roll-PatternForm Way Way (pattern_step name) (λ p. p.form) layer

  path_is : (p : Pattern) → variable_path name p ≡ form_path p.form
  path_is p = fold_out-Pattern Way Way (pattern_step name) (λ p. p.form) p

  -- what is shown of a pattern at a type, and of patterns at types
  abbrev Agrees : Matched → Type 0
  Agrees (PatternAt k f) = steps_of (form_path f) ≡ path_of name (form_shape f k)
  Agrees (PatternsAt ks ps) = (length ps ≡ length ks) ×
      (map steps_of (map (variable_path name) ps) ≡ map (path_of name) (each_at (map pattern_shape ps) ks))

  name_agrees : (k : HlType) (word : List ℕ) → Agrees (PatternAt k (patterns.Name word))
  name_agrees k word =
      ap steps_of (path_as (PatternForm-F.Name word) (patterns.Name word) (patterns.rolls-Name word))
      ∙ alone (bytes_eq name word)
      ∙ ap (path_of name) (sym (name_shape word k))

  ignored_agrees : (k : HlType) → Agrees (PatternAt k patterns.Ignore)
  ignored_agrees k =
      ap steps_of (path_as PatternForm-F.Ignore patterns.Ignore patterns.rolls-Ignore)
      ∙ ap (path_of name) (sym (shape_as PatternForm-F.Ignore patterns.Ignore patterns.rolls-Ignore k))

  tuple_agrees : (ks : List HlType) (ps : List Pattern) → Agrees (PatternsAt ks ps) → Agrees (PatternAt (kind.Tuple ks) (patterns.Tuple ps))
  tuple_agrees ks ps h =
      ap steps_of (path_as (PatternForm-F.Tuple ps) (patterns.Tuple ps) (patterns.rolls-Tuple ps))
      ∙ joined_steps sort.Variable name (map (variable_path name) ps) (each_at (map pattern_shape ps) ks) h.1
      ∙ ap (path_of name) (sym (tuple_shape ps ks))

  array_shape : (item : HlType) (count : ℕ) (ps : List Pattern) → length ps ≡ count →
      form_shape (patterns.Array ps) (kind.Array item count) ≡ joined (each_at (map pattern_shape ps) (replicate count item))
  array_shape item count ps long =
      shape_as (PatternForm-F.Array ps) (patterns.Array ps) (patterns.rolls-Array ps) (kind.Array item count)
      ∙ ap (λ x. in_array (map pattern_shape ps) x (form (kind.Array item count))) (kind.outs-Array item count)
      ∙ ap joined (sym (each_item ps item count long))

  array_agrees : (item : HlType) (count : ℕ) (ps : List Pattern) → Agrees (PatternsAt (replicate count item) ps) →
      Agrees (PatternAt (kind.Array item count) (patterns.Array ps))
  array_agrees item count ps h =
      ap steps_of (path_as (PatternForm-F.Array ps) (patterns.Array ps) (patterns.rolls-Array ps))
      ∙ joined_steps sort.Variable name (map (variable_path name) ps) (each_at (map pattern_shape ps) (replicate count item)) h.1
      ∙ ap (path_of name) (sym (array_shape item count ps (h.0 ∙ length-replicate count item)))

  one_more_agrees : (k : HlType) (ks : List HlType) (p : Pattern) (ps : List Pattern) → Agrees (PatternAt k p.form) → Agrees (PatternsAt ks ps) →
      Agrees (PatternsAt (k ∷ ks) (p ∷ ps))
  one_more_agrees k ks p ps h rest =
      let first : steps_of (variable_path name p) ≡ path_of name (pattern_shape p k) =
      ap steps_of (path_is p) ∙ h ∙ ap (path_of name) (sym (shape_is p k)) in (
        ap suc rest.0,
        ap (λ o. o ∷ map steps_of (map (variable_path name) ps)) first ∙ ap (λ l. path_of name (pattern_shape p k) ∷ l) rest.1,
      )

  agree : (m : Matched) (names : Scope) → Binds m names → Agrees m
  agree m names (rule.name k word) = name_agrees k word
  agree m names (rule.ignored k) = ignored_agrees k
  agree m names (rule.tuple ks ps within h) = tuple_agrees ks ps (agree (PatternsAt ks ps) within h)
  agree m names (rule.array item count ps within h) = array_agrees item count ps (agree (PatternsAt (replicate count item) ps) within h)
  agree m names rule.no_more = (refl, refl)
  agree m names (rule.one_more k ks p ps first more h i) =
      one_more_agrees k ks p ps (agree (PatternAt k p.form) first h) (agree (PatternsAt ks ps) more i)

  pub pattern_agrees : (k : HlType) (p : Pattern) (names : Scope) → Binds (PatternAt k p.form) names →
      steps_of (variable_path name p) ≡ path_of name (pattern_shape p k)
  pattern_agrees k p names h = ap steps_of (path_is p) ∙ agree (PatternAt k p.form) names h ∙ ap (path_of name) (sym (shape_is p k))

  each_witness : (ws : List TypedName) →
      map steps_of (map (λ (w : TypedName). at_name name w.name) ws) ≡ map (witness_path_of name) (map (λ (w : TypedName). Witness w.name w.kind) ws)
  each_witness [] = refl
  each_witness (w ∷ ws) =
      ap (λ o. o ∷ map steps_of (map (λ (w : TypedName). at_name name w.name) ws)) (alone (bytes_eq name w.name))
      ∙ ap (λ l. witness_path_of name (Witness w.name w.kind) ∷ l) (each_witness ws)

  pub witnesses_agree : (ws : List TypedName) → steps_of (witness_path name ws) ≡ witness_path_of name (witnesses_shape ws)
  witnesses_agree ws =
      joined_steps sort.Witness name (map (λ (w : TypedName). at_name name w.name) ws)
      (map (λ (w : TypedName). Witness w.name w.kind) ws) (each_witness ws)
