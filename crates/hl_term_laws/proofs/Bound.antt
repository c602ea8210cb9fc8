-- What the shape of a pattern has: the names that the pattern binds, the form of its type, and no witness.
use Rattle.std.proofs.Common.{◌≡◌, ℕ, zero, suc, List, [], ◌∷◌, ◌++◌, length, map, replicate, refl, sym, ap, ◌∙◌, subst, append_assoc, append-nil, arith}
use Rattle.std.proofs.lemmas.List.{length-replicate}
use Rattle.hl_syntax.specs.declared.kinds.HlType.{HlType}
use Rattle.hl_syntax.specs.declared.kinds.HlType.TheOpen.{HlType-F}
use Rattle.hl_syntax.specs.declared.kinds.HlType.TheVariants as kind
use Rattle.hl_syntax.specs.declared.tree.Pattern.{Pattern}
use Rattle.hl_syntax.specs.declared.tree.PatternForm.{PatternForm, roll-PatternForm}
use Rattle.hl_syntax.specs.declared.tree.PatternForm.TheOpen.{PatternForm-F}
use Rattle.hl_syntax.specs.declared.tree.PatternForm.TheFolds.{fold-PatternForm, fold-roll-PatternForm, fold_out-Pattern, map-PatternForm}
use Rattle.hl_syntax.specs.declared.tree.PatternForm.TheVariants as patterns
use Rattle.simplicity.proofs.Tuples.{halves_map, halves_right, from_right}
use Rattle.simplicity.specs.Tuples.{halves, tuple_kind}
use Rattle.simplicity.specs.Types.{Kind, One, Product}
use Rattle.simplicityhl.specs.Kinds.{form}
use Rattle.hl_rules.specs.Places.{Scope}
use Rattle.hl_typing.specs.Patterns as rule
use Rattle.hl_typing.specs.Patterns.{Matched, PatternAt, PatternsAt, Binds}
use Rattle.hl_terms.specs.Shapes.{Shape, Ignored, Both, Shaping, kind_of, variables_of, witnesses_of, joined, each_at, in_tuple, in_array, pattern_step, pattern_shape}
use Rattle.hl_term_laws.proofs.Encoded.{form_at}

-- a shape with its names and its type, in which no witness is bound
pub record Holds (s : Shape) (names : Scope) (k : Kind) : Type 0 where
  pub names_are : variables_of s ≡ names
  pub kind_is : kind_of s ≡ k
  pub bare : witnesses_of s ≡ []

record Bit : Type 0 where
  shape : Shape
  names : Scope
  kind : Kind
  holds : Holds shape names kind

abbrev nothing : Bit
nothing = record { shape = Ignored One; names = []; kind = One; holds = record { names_are = refl; kind_is = refl; bare = refl } }

abbrev both : Bit → Bit → Bit
both a b = record {
  shape = Both a.shape b.shape;
  names = a.names ++ b.names;
  kind = Product a.kind b.kind;
  holds = record {
    names_are = ap (λ l. l ++ variables_of b.shape) a.holds.names_are ∙ ap (λ l. a.names ++ l) b.holds.names_are;
    kind_is = ap (λ k. Product k (kind_of b.shape)) a.holds.kind_is ∙ ap (Product a.kind) b.holds.kind_is;
    bare = ap (λ l. l ++ witnesses_of b.shape) a.holds.bare ∙ b.holds.bare;
  };
}

record Bits (parts : List Shape) (names : Scope) (ks : List Kind) : Type 0 where
  bits : List Bit
  parts_are : map (λ (b : Bit). b.shape) bits ≡ parts
  names_are : from_right [] ◌++◌ (map (λ (b : Bit). b.names) bits) ≡ names
  kinds_are : map (λ (b : Bit). b.kind) bits ≡ ks

together : (parts : List Shape) (names : Scope) (ks : List Kind) → Bits parts names ks → Holds (joined parts) names (tuple_kind ks)
together parts names ks b =
    let whole = halves (length b.bits) nothing both b.bits in
    let s : whole.shape ≡ joined parts = halves_map (λ (b : Bit). b.shape) nothing both (Ignored One) Both refl (λ a b. refl) b.bits ∙ ap joined b.parts_are in
    let k : whole.kind ≡ tuple_kind ks = halves_map (λ (b : Bit). b.kind) nothing both One Product refl (λ a b. refl) b.bits ∙ ap tuple_kind b.kinds_are in
    let n : whole.names ≡ names =
    halves_map (λ (b : Bit). b.names) nothing both [] ◌++◌ refl (λ a b. refl) b.bits ∙ halves_right [] ◌++◌ append_assoc (λ a. refl) append-nil (map (λ (b : Bit). b.names) b.bits) ∙ b.names_are in
    subst (λ s. Holds s names (tuple_kind ks)) s (record { names_are = whole.holds.names_are ∙ n; kind_is = whole.holds.kind_is ∙ k; bare = whole.holds.bare })

abbrev form_shape : PatternForm → Shaping
form_shape f = fold-PatternForm Shaping Shaping pattern_step (λ q. q.form) f

shape_as : (layer : PatternForm-F PatternForm Pattern) (form : PatternForm) → roll-PatternForm layer ≡ form → (k : HlType) →
    form_shape form k ≡ pattern_step (map-PatternForm PatternForm Pattern Shaping Shaping form_shape pattern_shape layer) k
shape_as layer form is k =
    ap (λ (f : PatternForm). form_shape f k) (sym is) ∙ ap (λ (s : Shaping). s k) (fold-roll-PatternForm Shaping Shaping pattern_step (λ q. q.form) layer)

pattern_is : (p : Pattern) (k : HlType) → pattern_shape p k ≡ form_shape p.form k
pattern_is p k = ap (λ (s : Shaping). s k) (fold_out-Pattern Shaping Shaping pattern_step (λ q. q.form) p)

abbrev Claim : Matched → Scope → Type 0
Claim (PatternAt k f) names = Holds (form_shape f k) names (form k)
Claim (PatternsAt ks ps) names = (length ps ≡ length ks) × Bits (each_at (map pattern_shape ps) ks) names (map form ks)

more_bound : (k : HlType) (ks : List HlType) (p : Pattern) (ps : List Pattern) (names more : Scope) → Claim (PatternAt k p.form) names → Claim (PatternsAt ks ps) more →
    Claim (PatternsAt (k ∷ ks) (p ∷ ps)) (names ++ more)
more_bound k ks p ps names more h i = (
  ap suc i.0,
  record {
    bits = record { shape = form_shape p.form k; names = names; kind = form k; holds = h } ∷ i.1.bits;
    parts_are = ap (λ s. s ∷ map (λ (b : Bit). b.shape) i.1.bits) (sym (pattern_is p k)) ∙ ap (λ l. pattern_shape p k ∷ l) i.1.parts_are;
    names_are = ap (λ l. names ++ l) i.1.names_are;
    kinds_are = ap (λ l. form k ∷ l) i.1.kinds_are;
  },
)

tuple_bound : (ks : List HlType) (ps : List Pattern) (names : Scope) → Claim (PatternsAt ks ps) names → Claim (PatternAt (kind.Tuple ks) (patterns.Tuple ps)) names
tuple_bound ks ps names h =
    let k : HlType = kind.Tuple ks in
    let is = shape_as (PatternForm-F.Tuple ps) (patterns.Tuple ps) (patterns.rolls-Tuple ps) k ∙ ap (λ x. in_tuple (map pattern_shape ps) x (form k)) (kind.outs-Tuple ks) in
    subst (λ s. Holds s names (form k)) (sym is)
    (subst (Holds (joined (each_at (map pattern_shape ps) ks)) names) (sym (form_at k (HlType-F.Tuple ks) (kind.outs-Tuple ks))) (together (each_at (map pattern_shape ps) ks) names (map form ks) h.1))

each_item : (ps : List Pattern) (item : HlType) (count : ℕ) → length ps ≡ count → each_at (map pattern_shape ps) (replicate count item) ≡ map (λ (p : Shaping). p item) (map pattern_shape ps)
each_item [] item zero long = refl
each_item [] item (suc count) long = absurd (omega (arith, long))
each_item (p ∷ ps) item zero long = absurd (omega (arith, long))
each_item (p ∷ ps) item (suc count) long = ap (λ l. pattern_shape p item ∷ l) (each_item ps item count (omega (arith, long)))

item_forms : (count : ℕ) (item : HlType) → map form (replicate count item) ≡ replicate count (form item)
item_forms zero item = refl
item_forms (suc count) item = ap (λ l. form item ∷ l) (item_forms count item)

array_bound : (item : HlType) (count : ℕ) (ps : List Pattern) (names : Scope) → Claim (PatternsAt (replicate count item) ps) names → Claim (PatternAt (kind.Array item count) (patterns.Array ps)) names
array_bound item count ps names h =
    let k : HlType = kind.Array item count in
    let is = shape_as (PatternForm-F.Array ps) (patterns.Array ps) (patterns.rolls-Array ps) k ∙ ap (λ x. in_array (map pattern_shape ps) x (form k)) (kind.outs-Array item count) in
    let same = each_item ps item count (h.0 ∙ length-replicate count item) in
    let kinds : tuple_kind (map form (replicate count item)) ≡ form k = ap tuple_kind (item_forms count item) ∙ sym (form_at k (HlType-F.Array item count) (kind.outs-Array item count)) in
    subst (λ s. Holds s names (form k)) (sym is)
    (subst (λ l. Holds (joined l) names (form k)) same
    (subst (Holds (joined (each_at (map pattern_shape ps) (replicate count item))) names) kinds (together (each_at (map pattern_shape ps) (replicate count item)) names (map form (replicate count item)) h.1)))

name_bound : (k : HlType) (word : List ℕ) → Claim (PatternAt k (patterns.Name word)) (record { name = word; kind = k } ∷ [])
name_bound k word = subst (λ s. Holds s (record { name = word; kind = k } ∷ []) (form k)) (sym (shape_as (PatternForm-F.Name word) (patterns.Name word) (patterns.rolls-Name word) k)) (record { names_are = refl; kind_is = refl; bare = refl })

ignored_bound : (k : HlType) → Claim (PatternAt k patterns.Ignore) []
ignored_bound k = subst (λ s. Holds s [] (form k)) (sym (shape_as PatternForm-F.Ignore patterns.Ignore patterns.rolls-Ignore k)) (record { names_are = refl; kind_is = refl; bare = refl })

binds : (m : Matched) (names : Scope) → Binds m names → Claim m names
binds m names (rule.name k word) = name_bound k word
binds m names (rule.ignored k) = ignored_bound k
binds m names (rule.tuple ks ps within h) = tuple_bound ks ps within (binds (PatternsAt ks ps) within h)
binds m names (rule.array item count ps within h) = array_bound item count ps within (binds (PatternsAt (replicate count item) ps) within h)
binds m names rule.no_more = (refl, record { bits = []; parts_are = refl; names_are = refl; kinds_are = refl })
binds m names (rule.one_more k ks p ps first more h i) = more_bound k ks p ps first more (binds (PatternAt k p.form) first h) (binds (PatternsAt ks ps) more i)

-- the shape of a pattern at its type
pub pattern_holds : (k : HlType) (p : Pattern) (names : Scope) → Binds (PatternAt k p.form) names → Holds (pattern_shape p k) names (form k)
pattern_holds k p names h = subst (λ s. Holds s names (form k)) (sym (pattern_is p k)) (binds (PatternAt k p.form) names h)
