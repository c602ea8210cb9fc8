-- What a pattern binds in a value stands at the places of the value's encoding.
use Rattle.std.specs.Prelude.{if◌then◌else◌}
use Rattle.std.proofs.Common.{◌≡◌, nat_eq, Bool, true, false, List, [], ◌∷◌, ◌++◌, length, map, Option, Some, None, option_map, refl, sym, ap, ◌∙◌, subst, append_assoc, append-nil}
use Rattle.hl_data.specs.declared.value.HlValue.{HlValue}
use Rattle.hl_data.specs.declared.value.HlValue.TheOpen.{HlValue-F}
use Rattle.hl_data.specs.declared.value.HlValue.TheViews.{out-HlValue}
use Rattle.hl_syntax.specs.declared.kinds.HlType.{HlType}
use Rattle.hl_syntax.specs.declared.kinds.HlType.TheOpen.{HlType-F}
use Rattle.hl_syntax.specs.declared.kinds.HlType.TheViews.{out-HlType}
use Rattle.hl_syntax.specs.declared.tree.Pattern.{Pattern, roll-Pattern, map-Pattern}
use Rattle.hl_syntax.specs.declared.tree.PatternForm.{PatternForm, roll-PatternForm, map-PatternForm}
use Rattle.hl_syntax.specs.declared.tree.PatternForm.TheOpen.{PatternForm-F, Pattern-F}
use Rattle.hl_syntax.specs.declared.tree.PatternForm.TheFolds.{fold-PatternForm, fold-roll-PatternForm, fold-roll-Pattern, ind-Pattern}
use Rattle.hl_meaning.specs.Scopes as scopes
use Rattle.hl_syntax.specs.declared.kinds.TypedName.{TypedName}
use Rattle.hl_meaning.specs.Mean.{named, scope_of}
use Rattle.hl_meaning.specs.Scopes.{Binding, Binder, bound, each_bound}
use Rattle.hl_meaning.specs.Values.{beside, encoded, at_each, at_all}
use Rattle.simplicity.specs.Tuples.{halves, tuple_value}
use Rattle.simplicity.specs.Types.{Kind, One, Value, UnitValue, Pair}
use Rattle.simplicityhl.specs.Kinds.{form}
use Rattle.hl_term_laws.specs.Renders.{Scoped, ScopedIgnored, ScopedVariable, ScopedBoth}
use Rattle.hl_terms.specs.Shapes.{Shape, Ignored, Variable, Both, Shaping, joined, each_at, params_shape, in_tuple, in_array, pattern_step, pattern_shape}
use Rattle.simplicity.proofs.Tuples.{halves_map, halves_right, from_right}
use Rattle.hl_term_laws.proofs.Encoded.{opened, layer_value, some_same, mapped}

pub record Besides {A B C : Type 0} (join : A → B → C) (a : Option A) (b : Option B) (z : C) : Type 0 where
  pub first : A
  pub second : B
  pub first_is : a ≡ Some first
  pub second_is : b ≡ Some second
  pub is : join first second ≡ z

pub besides : {A B C : Type 0} (join : A → B → C) (a : Option A) (b : Option B) (z : C) → beside join a b ≡ Some z → Besides join a b z
besides join (Some x) (Some y) z e = record { first = x; second = y; first_is = refl; second_is = refl; is = some_same (join x y) z e }
besides join (Some x) None z e = absurd (cc)
besides join None b z e = absurd (cc)

module _ (given : List Binding) where
  pub record Laid : Type 0 where
    pub shape : Shape
    pub names : List Binding
    pub core : Value
    pub laid : Scoped given shape names core

  abbrev nothing_laid : Laid
  nothing_laid = record { shape = Ignored One; names = []; core = UnitValue; laid = ScopedIgnored One UnitValue }

  abbrev both_laid : Laid → Laid → Laid
  both_laid a b = record { shape = Both a.shape b.shape; names = a.names ++ b.names; core = Pair a.core b.core; laid = ScopedBoth a.shape b.shape a.names b.names (a.names ++ b.names) a.core b.core a.laid b.laid refl }

  pub record Laids (shapes : List Shape) (names : List Binding) (cores : List Value) : Type 0 where
    pub parts : List Laid
    pub shapes_are : map (λ (p : Laid). p.shape) parts ≡ shapes
    pub names_are : from_right [] ◌++◌ (map (λ (p : Laid). p.names) parts) ≡ names
    pub cores_are : map (λ (p : Laid). p.core) parts ≡ cores

  pub together : (shapes : List Shape) (names : List Binding) (cores : List Value) → Laids shapes names cores → Scoped given (joined shapes) names (tuple_value cores)
  together shapes names cores l =
      let whole = halves (length l.parts) nothing_laid both_laid l.parts in
      let a : whole.shape ≡ joined shapes = halves_map (λ (p : Laid). p.shape) nothing_laid both_laid (Ignored One) Both refl (λ a b. refl) l.parts ∙ ap joined l.shapes_are in
      let b : whole.core ≡ tuple_value cores = halves_map (λ (p : Laid). p.core) nothing_laid both_laid UnitValue Pair refl (λ a b. refl) l.parts ∙ ap tuple_value l.cores_are in
      let c : whole.names ≡ names = halves_map (λ (p : Laid). p.names) nothing_laid both_laid [] ◌++◌ refl (λ a b. refl) l.parts ∙ halves_right [] ◌++◌ append_assoc (λ a. refl) append-nil (map (λ (p : Laid). p.names) l.parts) ∙ l.names_are in
      subst (λ s. Scoped given s names (tuple_value cores)) a (subst (λ v. Scoped given whole.shape names v) b (subst (λ n. Scoped given whole.shape n whole.core) c whole.laid))

  abbrev Lays : Binder → Shaping → Type 0
  Lays b s = (k : HlType) (v : HlValue) (c : Value) (bs : List Binding) → b v ≡ Some bs → encoded v k ≡ Some c → Scoped given (s k) bs c

  abbrev form_shape : PatternForm → Shaping
  form_shape f = fold-PatternForm Shaping Shaping pattern_step (λ q. q.form) f

  abbrev form_bound : PatternForm → Binder
  form_bound f = fold-PatternForm Binder Binder scopes.pattern_step (λ q. q.form) f

  abbrev OfForm : PatternForm → Type 0
  OfForm f = Lays (form_bound f) (form_shape f)

  abbrev OfPattern : Pattern → Type 0
  OfPattern p = Lays (bound p) (pattern_shape p)

  abbrev Forms : Type 0
  Forms = (f : PatternForm) × OfForm f

  abbrev Patterns : Type 0
  Patterns = (p : Pattern) × OfPattern p

  abbrev first : Patterns → Pattern
  first e = e.0

  one_more : (e : Patterns) (k : HlType) (v : HlValue) (shapes : List Shape) (cores : List Value) (core : Value) (names new : List Binding) → bound e.0 v ≡ Some new → encoded v k ≡ Some core → Laids shapes names cores →
      Laids (pattern_shape e.0 k ∷ shapes) (new ++ names) (core ∷ cores)
  one_more e k v shapes cores core names new b c rest = record {
    parts = record { shape = pattern_shape e.0 k; names = new; core = core; laid = e.1 k v core new b c } ∷ rest.parts;
    shapes_are = ap (λ l. pattern_shape e.0 k ∷ l) rest.shapes_are;
    names_are = ap (λ l. new ++ l) rest.names_are;
    cores_are = ap (λ l. core ∷ l) rest.cores_are;
  }

  pub none_left : (bs : List Binding) (cs : List Value) → Some [] ≡ Some bs → Some [] ≡ Some cs → Laids [] bs cs
  none_left bs cs e f = record { parts = []; shapes_are = refl; names_are = some_same [] bs e; cores_are = some_same [] cs f }

  parts_laid : (ps : List Patterns) (ks : List HlType) (vs : List HlValue) (bs : List Binding) (cs : List Value) → each_bound (map bound (map first ps)) vs ≡ Some bs → at_each (map encoded vs) ks ≡ Some cs →
      Laids (each_at (map pattern_shape (map first ps)) ks) bs cs
  parts_laid [] [] [] bs cs e f = none_left bs cs e f
  parts_laid [] (k ∷ ks) [] bs cs e f = absurd (cc)
  parts_laid [] ks (v ∷ vs) bs cs e f = absurd (cc)
  parts_laid (p ∷ ps) ks [] bs cs e f = absurd (cc)
  parts_laid (p ∷ ps) [] (v ∷ vs) bs cs e f = absurd (cc)
  parts_laid (p ∷ ps) (k ∷ ks) (v ∷ vs) bs cs e f =
      let b = besides (λ first rest. first ++ rest) (bound p.0 v) (each_bound (map bound (map first ps)) vs) bs e in
      let c = besides (λ v vs. v ∷ vs) (encoded v k) (at_each (map encoded vs) ks) cs f in
      let rest = parts_laid ps ks vs b.second c.second b.second_is c.second_is in
      subst (λ names. Laids (pattern_shape p.0 k ∷ each_at (map pattern_shape (map first ps)) ks) names cs) b.is
      (subst (λ cores. Laids (pattern_shape p.0 k ∷ each_at (map pattern_shape (map first ps)) ks) (b.first ++ b.second) cores) c.is
      (one_more p k v (each_at (map pattern_shape (map first ps)) ks) c.second c.first b.second b.first b.first_is c.first_is rest))

  items_laid : (ps : List Patterns) (k : HlType) (vs : List HlValue) (bs : List Binding) (cs : List Value) → each_bound (map bound (map first ps)) vs ≡ Some bs → at_all (map encoded vs) k ≡ Some cs →
      Laids (map (λ p. p k) (map pattern_shape (map first ps))) bs cs
  items_laid [] k [] bs cs e f = none_left bs cs e f
  items_laid [] k (v ∷ vs) bs cs e f = absurd (cc)
  items_laid (p ∷ ps) k [] bs cs e f = absurd (cc)
  items_laid (p ∷ ps) k (v ∷ vs) bs cs e f =
      let b = besides (λ first rest. first ++ rest) (bound p.0 v) (each_bound (map bound (map first ps)) vs) bs e in
      let c = besides (λ y ys. y ∷ ys) (encoded v k) (at_all (map encoded vs) k) cs f in
      let rest = items_laid ps k vs b.second c.second b.second_is c.second_is in
      subst (λ names. Laids (pattern_shape p.0 k ∷ map (λ p. p k) (map pattern_shape (map first ps))) names cs) b.is
      (subst (λ cores. Laids (pattern_shape p.0 k ∷ map (λ p. p k) (map pattern_shape (map first ps))) (b.first ++ b.second) cores) c.is
      (one_more p k v (map (λ p. p k) (map pattern_shape (map first ps))) c.second c.first b.second b.first b.first_is c.first_is rest))

  -- parameters

  params_laid : (ps : List TypedName) (vs : List HlValue) (bs : List Binding) (cs : List Value) → each_bound (map named ps) vs ≡ Some bs → at_each (map encoded vs) (map (λ (p : TypedName). p.kind) ps) ≡ Some cs →
      Laids (map (λ (p : TypedName). Variable p.name p.kind) ps) bs cs
  params_laid [] [] bs cs e f = none_left bs cs e f
  params_laid [] (v ∷ vs) bs cs e f = absurd (cc)
  params_laid (p ∷ ps) [] bs cs e f = absurd (cc)
  params_laid (p ∷ ps) (v ∷ vs) bs cs e f =
      let b = besides (λ first rest. first ++ rest) (named p v) (each_bound (map named ps) vs) bs e in
      let c = besides (λ v vs. v ∷ vs) (encoded v p.kind) (at_each (map encoded vs) (map (λ (p : TypedName). p.kind) ps)) cs f in
      let rest = params_laid ps vs b.second c.second b.second_is c.second_is in
      let first_is : record { name = p.name; value = v } ∷ [] ≡ b.first = some_same (record { name = p.name; value = v } ∷ []) b.first b.first_is in
      subst (λ names. Laids (map (λ (p : TypedName). Variable p.name p.kind) (p ∷ ps)) names cs) b.is
      (subst (λ cores. Laids (map (λ (p : TypedName). Variable p.name p.kind) (p ∷ ps)) (b.first ++ b.second) cores) c.is
      (record {
        parts = record { shape = Variable p.name p.kind; names = b.first; core = c.first; laid = subst (λ ns. Scoped given (Variable p.name p.kind) ns c.first) first_is (ScopedVariable p.name p.kind v c.first c.first_is) } ∷ rest.parts;
        shapes_are = ap (λ l. Variable p.name p.kind ∷ l) rest.shapes_are;
        names_are = ap (λ l. b.first ++ l) rest.names_are;
        cores_are = ap (λ l. c.first ∷ l) rest.cores_are;
      }))

  pub params_scoped : (ps : List TypedName) (vs : List HlValue) (bs : List Binding) (cs : List Value) → scope_of ps vs ≡ Some bs → at_each (map encoded vs) (map (λ (p : TypedName). p.kind) ps) ≡ Some cs → Scoped given (params_shape ps) bs (tuple_value cs)
  params_scoped ps vs bs cs e f = together (map (λ (p : TypedName). Variable p.name p.kind) ps) bs cs (params_laid ps vs bs cs e f)

  tuple_by : (ps : List Patterns) (vs : List HlValue) (x : HlType-F HlType) (k : Kind) (bs : List Binding) (c : Value) → each_bound (map bound (map first ps)) vs ≡ Some bs → layer_value (HlValue-F.Tuple vs) x ≡ Some c →
      Scoped given (in_tuple (map pattern_shape (map first ps)) x k) bs c
  tuple_by ps vs (HlType-F.Tuple ks) k bs c e f =
      let m = mapped tuple_value (at_each (map encoded vs) ks) c f in
      subst (λ v. Scoped given (joined (each_at (map pattern_shape (map first ps)) ks)) bs v) m.is (together (each_at (map pattern_shape (map first ps)) ks) bs m.from (parts_laid ps ks vs bs m.from e m.was))
  tuple_by ps vs _ k bs c e f = absurd (cc)

  array_there : (b : Bool) (o : Option Value) (c : Value) → (if b then o else None) ≡ Some c → o ≡ Some c
  array_there true o c e = e
  array_there false o c e = absurd (cc)

  array_by : (ps : List Patterns) (vs : List HlValue) (x : HlType-F HlType) (k : Kind) (bs : List Binding) (c : Value) → each_bound (map bound (map first ps)) vs ≡ Some bs → layer_value (HlValue-F.Array vs) x ≡ Some c →
      Scoped given (in_array (map pattern_shape (map first ps)) x k) bs c
  array_by ps vs (HlType-F.Array item count) k bs c e f =
      let m = mapped tuple_value (at_all (map encoded vs) item) c (array_there (nat_eq (length (map encoded vs)) count) (option_map tuple_value (at_all (map encoded vs) item)) c f) in
      subst (λ v. Scoped given (joined (map (λ p. p item) (map pattern_shape (map first ps)))) bs v) m.is (together (map (λ p. p item) (map pattern_shape (map first ps))) bs m.from (items_laid ps item vs bs m.from e m.was))
  array_by ps vs _ k bs c e f = absurd (cc)

  tuple_laid : (ps : List Patterns) (w : HlValue-F HlValue) (x : HlType-F HlType) (k : Kind) (bs : List Binding) (c : Value) → scopes.in_tuple (map bound (map first ps)) w ≡ Some bs → layer_value w x ≡ Some c →
      Scoped given (in_tuple (map pattern_shape (map first ps)) x k) bs c
  tuple_laid ps (HlValue-F.Tuple vs) x k bs c e f = tuple_by ps vs x k bs c e f
  tuple_laid ps _ x k bs c e f = absurd (cc)

  array_laid : (ps : List Patterns) (w : HlValue-F HlValue) (x : HlType-F HlType) (k : Kind) (bs : List Binding) (c : Value) → scopes.in_array (map bound (map first ps)) w ≡ Some bs → layer_value w x ≡ Some c →
      Scoped given (in_array (map pattern_shape (map first ps)) x k) bs c
  array_laid ps (HlValue-F.Array vs) x k bs c e f = array_by ps vs x k bs c e f
  array_laid ps _ x k bs c e f = absurd (cc)

  form_lays : (y : PatternForm-F Forms Patterns) → let x : PatternForm-F PatternForm Pattern = map-PatternForm Forms Patterns PatternForm Pattern (λ e. e.0) first y in
      Lays (scopes.pattern_step (map-PatternForm PatternForm Pattern Binder Binder form_bound bound x)) (pattern_step (map-PatternForm PatternForm Pattern Shaping Shaping form_shape pattern_shape x))
  form_lays (PatternForm-F.Name name) k v c bs e f = subst (λ ns. Scoped given (Variable name k) ns c) (some_same (record { name = name; value = v } ∷ []) bs e) (ScopedVariable name k v c f)
  form_lays PatternForm-F.Ignore k v c bs e f = subst (λ ns. Scoped given (Ignored (form k)) ns c) (some_same [] bs e) (ScopedIgnored (form k) c)
  form_lays (PatternForm-F.Tuple ps) k v c bs e f = tuple_laid ps (out-HlValue v) (out-HlType k) (form k) bs c e (opened v k (out-HlType k) c refl f)
  form_lays (PatternForm-F.Array ps) k v c bs e f = array_laid ps (out-HlValue v) (out-HlType k) (form k) bs c e (opened v k (out-HlType k) c refl f)

  form_rolled : (y : PatternForm-F Forms Patterns) → OfForm (roll-PatternForm (map-PatternForm Forms Patterns PatternForm Pattern (λ e. e.0) first y))
  form_rolled y k v c bs e f =
      let x : PatternForm-F PatternForm Pattern = map-PatternForm Forms Patterns PatternForm Pattern (λ e. e.0) first y in
      let shape = fold-roll-PatternForm Shaping Shaping pattern_step (λ q. q.form) x in
      let binder = fold-roll-PatternForm Binder Binder scopes.pattern_step (λ q. q.form) x in
      subst (λ s. Scoped given s bs c) (sym (ap (λ (g : Shaping). g k) shape)) (form_lays y k v c bs (sym (ap (λ (g : Binder). g v) binder) ∙ e) f)

  pattern_rolled : (y : Pattern-F Forms Patterns) → OfPattern (roll-Pattern (map-Pattern Forms Patterns PatternForm Pattern (λ e. e.0) first y))
  pattern_rolled y k v c bs e f =
      let x : Pattern-F PatternForm Pattern = map-Pattern Forms Patterns PatternForm Pattern (λ e. e.0) first y in
      let shape = fold-roll-Pattern Shaping Shaping pattern_step (λ q. q.form) x in
      let binder = fold-roll-Pattern Binder Binder scopes.pattern_step (λ q. q.form) x in
      subst (λ s. Scoped given s bs c) (sym (ap (λ (g : Shaping). g k) shape)) (y.form.1 k v c bs (sym (ap (λ (g : Binder). g v) binder) ∙ e) f)

  pub pattern_lays : (p : Pattern) → OfPattern p
  pattern_lays p = ind-Pattern OfForm OfPattern (λ x y is. subst (λ z. OfForm (roll-PatternForm z)) is (form_rolled y)) (λ x y is. subst (λ z. OfPattern (roll-Pattern z)) is (pattern_rolled y)) p
