-- Where the walk of a program answers, the walk of each type that is written and of each pattern did.
use Rattle.std.proofs.Common.{◌≡◌, ℕ, Bool, true, false, nat_lt, nat_eq, List, [], ◌∷◌, ◌++◌, length, map, flat_map, Option, Some, Result, Ok, Err, refl, sym, ap, ◌∙◌, subst, append_assoc, append-nil, arith}
use Rattle.std.specs.Prelude.{if◌then◌else◌}
use Rattle.std.proofs.lemmas.List.{map-append}
use Rattle.hl_data.specs.declared.typed.TypedForm.{TypedForm}
use Rattle.hl_data.specs.declared.typed.TypedSide.{TypedSide}
use Rattle.hl_data.specs.declared.value.Entry.{Entry}
use Rattle.hl_syntax.specs.declared.kinds.HlType.{HlType}
use Rattle.hl_syntax.specs.declared.kinds.TypedName.{TypedName}
use Rattle.hl_syntax.specs.declared.rules.Limit.TheVariants.{L5}
use Rattle.hl_syntax.specs.declared.rules.Rule.TheVariants.{K6, K8}
use Rattle.hl_syntax.specs.declared.token.Span.{Span}
use Rattle.hl_syntax.specs.declared.tree.Arm.{Arm}
use Rattle.hl_syntax.specs.declared.tree.Expr.{Expr}
use Rattle.hl_syntax.specs.declared.tree.ExprForm.{ExprForm}
use Rattle.hl_syntax.specs.declared.tree.ExprForm.TheOpen.{ExprForm-F}
use Rattle.hl_syntax.specs.declared.tree.ExprForm.TheVariants as exprs
use Rattle.hl_syntax.specs.declared.tree.Item.{Item}
use Rattle.hl_syntax.specs.declared.tree.Item.TheVariants as items
use Rattle.hl_syntax.specs.declared.tree.Pattern.{Pattern}
use Rattle.hl_syntax.specs.declared.tree.PatternForm.{PatternForm, roll-PatternForm, map-PatternForm}
use Rattle.hl_syntax.specs.declared.tree.PatternForm.TheFolds.{fold-PatternForm, fold-roll-PatternForm, fold_out-Pattern}
use Rattle.hl_syntax.specs.declared.tree.PatternForm.TheOpen.{PatternForm-F}
use Rattle.hl_syntax.specs.declared.tree.PatternForm.TheVariants as patterns
use Rattle.hl_syntax.specs.declared.tree.Side.{Side}
use Rattle.hl_syntax.specs.declared.tree.Statement.TheVariants as statements
use Rattle.hl_syntax.specs.declared.tree.TypeForm.{TypeForm, roll-TypeForm}
use Rattle.hl_syntax.specs.declared.tree.TypeForm.TheFolds.{fold-roll-TypeForm, fold_out-TypeText, map-TypeForm}
use Rattle.hl_syntax.specs.declared.tree.TypeForm.TheOpen.{TypeForm-F}
use Rattle.hl_syntax.specs.declared.tree.TypeForm.TheVariants as types
use Rattle.hl_syntax.specs.declared.tree.TypeText.{TypeText}
use Rattle.simplicity.specs.Types.{weight}
use Rattle.simplicityhl.specs.Kinds as kinds
use Rattle.simplicityhl.specs.Written.{Broken, breaks_limit, Walked, walk, walk_step, then_walk, in_turn, light}
use Rattle.hl_rules.specs.Breaks.{made_type}
use Rattle.hl_rules.specs.Exprs.{side_walk, binding_walk}
use Rattle.hl_rules.specs.Occurs.{Place}
use Rattle.hl_rules.specs.Patterns.{PatternWalk, pattern_walk, pattern_step, patterns_walk, items_walk}
use Rattle.hl_rules.specs.Places.{Scope}
use Rattle.hl_rules.specs.Programs as programs
use Rattle.hl_rules.specs.Programs.{Known}
use Rattle.hl_rules.specs.Same.{parts_of, array_of}
use Rattle.hl_rules.specs.Steps as steps
use Rattle.hl_rules.specs.Witnesses.{Names}
use Rattle.hl_rules.specs.Written as written
use Rattle.hl_rules.specs.Written.{IsWritten, IsMatched, Binds, binds_left, binds_right, binds_some, pattern_names, pattern_names_step}
use Rattle.hl_rules.proofs.Here.{Setting, Here}
use Rattle.hl_rules.proofs.Names.{names_of, joined_map}
use Rattle.hl_typing.specs.Patterns as bindings
use Rattle.hl_typing.specs.Patterns.{Matched, PatternAt, PatternsAt}
use Rattle.hl_typing.proofs.Everywhere.{RunsAt, setting, declared_ran, function_first, alias_first, occurs_runs}
use Rattle.hl_typing.proofs.Heads.{params_at}
use Rattle.hl_typing.proofs.Patterns.{pattern_binds}
use Rattle.hl_typing.proofs.Reached.{opened}
use Rattle.hl_typing.proofs.Steps.{ran, ok_same, wants_ok}
use Rattle.hl_typing.proofs.There.{step_there}
use Rattle.hl_typing.proofs.Within.{Answers, block_ran, some_let, two_arms, match_ran}

-- Types.

pub record TypeRan (aliases : List TypedName) (form : TypeForm) (span : Span) : Type 0 where
  pub kind : HlType
  pub is : made_type aliases form span ≡ Ok kind
  pub small : nat_lt 4194304 (weight (kinds.form kind)) ≡ false

light_is : (b : Bool) (k l : HlType) (broken : Broken) → (if b then Err broken else Ok k) ≡ Ok l → b ≡ false
light_is true k l broken h = absurd (cc)
light_is false k l broken h = refl

text_ran : (aliases : List TypedName) (text : TypeText) (k : HlType) → walk aliases text ≡ Ok k → TypeRan aliases text.form text.span
text_ran aliases text k h =
    let walks = fold_out-TypeText (Span → Walked) Walked (walk_step aliases) (λ t. then_walk (t.form t.span) (light t.span)) text in
    let r = ran (made_type aliases text.form text.span) (light text.span) k (sym walks ∙ h) in
    record { kind = r.from; is = r.was; small = light_is (nat_lt 4194304 (weight (kinds.form r.from))) r.from k (breaks_limit L5 text.span) r.is }

pub type_layer : (aliases : List TypedName) (layer : TypeForm-F TypeForm TypeText) (form : TypeForm) → roll-TypeForm layer ≡ form → (span : Span) (k : HlType) → made_type aliases form span ≡ Ok k →
    walk_step aliases (map-TypeForm TypeForm TypeText (Span → Walked) Walked (made_type aliases) (walk aliases) layer) span ≡ Ok k
type_layer aliases layer form is span k h =
    let walks = fold-roll-TypeForm (Span → Walked) Walked (walk_step aliases) (λ t. then_walk (t.form t.span) (light t.span)) layer in
    sym (ap (λ (w : Span → Walked). w span) walks) ∙ ap (λ (f : TypeForm). made_type aliases f span) is ∙ h

in_turn_at : (aliases : List TypedName) (before : List TypeText) (part : TypeText) (after : List TypeText) (ks : List HlType) → in_turn (map (walk aliases) (before ++ part ∷ after)) ≡ Ok ks → (k : HlType) × (walk aliases part ≡ Ok k)
in_turn_at aliases [] part after ks h = let r = ran (walk aliases part) _ ks h in (r.from, r.was)
in_turn_at aliases (text ∷ before) part after ks h =
    let r = ran (walk aliases text) _ ks h in
    let t = ran (in_turn (map (walk aliases) (before ++ part ∷ after))) _ ks r.is in
    in_turn_at aliases before part after t.from t.was

-- Patterns.

abbrev pub pattern_form : PatternForm → Span → PatternWalk
pattern_form form = fold-PatternForm (Span → PatternWalk) PatternWalk pattern_step (λ p. p.form p.span) form

abbrev form_names : PatternForm → Names
form_names form = fold-PatternForm Names Names pattern_names_step (λ p. p.form) form

-- the names that are bound are those in the pattern

abbrev Named : Matched → Scope → Type 0
Named (PatternAt k form) names = names_of names ≡ form_names form
Named (PatternsAt ks ps) names = names_of names ≡ flat_map pattern_names ps

names_layer : (layer : PatternForm-F PatternForm Pattern) (form : PatternForm) → roll-PatternForm layer ≡ form → pattern_names_step (map-PatternForm PatternForm Pattern Names Names form_names pattern_names layer) ≡ form_names form
names_layer layer form is = sym (fold-roll-PatternForm Names Names pattern_names_step (λ p. p.form) layer) ∙ ap form_names is

pattern_named : (p : Pattern) → pattern_names p ≡ form_names p.form
pattern_named p = fold_out-Pattern Names Names pattern_names_step (λ p. p.form) p

binds_names : (at : Matched) (names : Scope) → bindings.Binds at names → Named at names
binds_names _ _ (bindings.name k word) = names_layer (PatternForm-F.Name word) (patterns.Name word) (patterns.rolls-Name word)
binds_names _ _ (bindings.ignored k) = names_layer PatternForm-F.Ignore patterns.Ignore patterns.rolls-Ignore
binds_names _ _ (bindings.tuple ks ps names b) = binds_names (PatternsAt ks ps) names b ∙ sym (joined_map pattern_names ps) ∙ names_layer (PatternForm-F.Tuple ps) (patterns.Tuple ps) (patterns.rolls-Tuple ps)
binds_names _ _ (bindings.array item count ps names b) = binds_names (PatternsAt _ ps) names b ∙ sym (joined_map pattern_names ps) ∙ names_layer (PatternForm-F.Array ps) (patterns.Array ps) (patterns.rolls-Array ps)
binds_names _ _ bindings.no_more = refl
binds_names _ _ (bindings.one_more k ks p ps names more one rest) =
    map-append (λ (n : TypedName). n.name) names more ∙ ap (λ (ns : Names). ns ++ names_of more) (binds_names (PatternAt k p.form) names one ∙ sym (pattern_named p)) ∙ ap (λ (ns : Names). pattern_names p ++ ns) (binds_names (PatternsAt ks ps) more rest)

walk_names : (p : Pattern) (k : HlType) (bound after : Scope) (names : Names) → names_of bound ≡ names → pattern_walk p k bound ≡ Ok after → names_of after ≡ names ++ pattern_names p
walk_names p k bound after names named h =
    let b = pattern_binds p k bound after h in
    ap names_of b.is ∙ map-append (λ (n : TypedName). n.name) bound b.names ∙ ap (λ (ns : Names). ns ++ names_of b.names) named ∙ ap (λ (ns : Names). names ++ ns) (binds_names (PatternAt k p.form) b.names b.binds ∙ sym (pattern_named p))

-- a pattern of a form at a type, after some names
pub record PatternRan (form : PatternForm) (span : Span) (kind : HlType) (names : Names) : Type 0 where
  pub bound : Scope
  pub named : names_of bound ≡ names
  pub after : Scope
  pub is : pattern_form form span kind bound ≡ Ok after

pattern_ran : (p : Pattern) (kind : HlType) (bound after : Scope) (names : Names) → names_of bound ≡ names → pattern_walk p kind bound ≡ Ok after → PatternRan p.form p.span kind names
pattern_ran p kind bound after names named h =
    let walks = fold_out-Pattern (Span → PatternWalk) PatternWalk pattern_step (λ p. p.form p.span) p in
    record { bound = bound; named = named; after = after; is = sym (ap (λ (w : PatternWalk). w kind bound) walks) ∙ h }

pub pattern_layer : (layer : PatternForm-F PatternForm Pattern) (form : PatternForm) → roll-PatternForm layer ≡ form → (span : Span) (kind : HlType) (bound after : Scope) → pattern_form form span kind bound ≡ Ok after →
    pattern_step (map-PatternForm PatternForm Pattern (Span → PatternWalk) PatternWalk pattern_form pattern_walk layer) span kind bound ≡ Ok after
pattern_layer layer form is span kind bound after h =
    let walks = fold-roll-PatternForm (Span → PatternWalk) PatternWalk pattern_step (λ p. p.form p.span) layer in
    sym (ap (λ (w : Span → PatternWalk). w span kind bound) walks) ∙ ap (λ (f : PatternForm). pattern_form f span kind bound) is ∙ h

pattern_at : (before : List Pattern) (part : Pattern) (after : List Pattern) (ks : List HlType) (k : HlType) (more : List HlType) (bound r : Scope) (names : Names) → length before ≡ length ks → names_of bound ≡ names →
    patterns_walk (map pattern_walk (before ++ part ∷ after)) (ks ++ k ∷ more) bound ≡ Ok r → PatternRan part.form part.span k (names ++ flat_map pattern_names before)
pattern_at [] part after [] k more bound r names long named h =
    let a = ran (pattern_walk part k bound) _ r h in pattern_ran part k bound a.from (names ++ []) (named ∙ sym (append-nil names)) a.was
pattern_at [] part after (j ∷ ks) k more bound r names long named h = absurd (omega (arith, long))
pattern_at (p ∷ before) part after [] k more bound r names long named h = absurd (omega (arith, long))
pattern_at (p ∷ before) part after (j ∷ ks) k more bound r names long named h =
    let a = ran (pattern_walk p j bound) _ r h in
    subst (PatternRan part.form part.span k) (append_assoc names (pattern_names p) (flat_map pattern_names before))
    (pattern_at before part after ks k more a.from r (names ++ pattern_names p) (omega (arith, long)) (walk_names p j bound a.from names named a.was) a.is)

item_at : (before : List Pattern) (part : Pattern) (after : List Pattern) (k : HlType) (bound r : Scope) (names : Names) → names_of bound ≡ names →
    items_walk (map pattern_walk (before ++ part ∷ after)) k bound ≡ Ok r → PatternRan part.form part.span k (names ++ flat_map pattern_names before)
item_at [] part after k bound r names named h = let a = ran (pattern_walk part k bound) _ r h in pattern_ran part k bound a.from (names ++ []) (named ∙ sym (append-nil names)) a.was
item_at (p ∷ before) part after k bound r names named h =
    let a = ran (pattern_walk p k bound) _ r h in
    subst (PatternRan part.form part.span k) (append_assoc names (pattern_names p) (flat_map pattern_names before))
    (item_at before part after k a.from r (names ++ pattern_names p) (walk_names p k bound a.from names named a.was) a.is)

-- Sides.

pub record SideRan (aliases : List TypedName) (pattern : Pattern) (text : TypeText) : Type 0 where
  pub kind : HlType
  pub written : walk aliases text ≡ Ok kind
  pub bound : Scope
  pub binds : pattern_walk pattern kind [] ≡ Ok bound

binding_ran : (aliases : List TypedName) (pattern : Pattern) (text : TypeText) (next : HlType × Scope → Result (TypedSide × Scope) Broken) (r : TypedSide × Scope) → then_walk (binding_walk aliases pattern text) next ≡ Ok r → SideRan aliases pattern text
binding_ran aliases pattern text next r h =
    let a = ran (binding_walk aliases pattern text) next r h in
    let b = ran (walk aliases text) _ a.from a.was in
    let c = ran (pattern_walk pattern b.from []) _ a.from b.is in
    record { kind = b.from; written = b.was; bound = c.from; binds = c.was }

side_ran : (aliases : List TypedName) (side : Side) (pattern : Pattern) (text : TypeText) (r : TypedSide × Scope) → Binds side pattern text → side_walk aliases side ≡ Ok r → SideRan aliases pattern text
side_ran aliases _ _ _ r (binds_left pattern text) h = binding_ran aliases pattern text _ r h
side_ran aliases _ _ _ r (binds_right pattern text) h = binding_ran aliases pattern text _ r h
side_ran aliases _ _ _ r (binds_some pattern text) h = binding_ran aliases pattern text _ r h

arm_side : (s : Setting) (h : Here s.program) (e : Expr) (before after : List Arm) (arm : Arm) (span : Span) (r : TypedForm × List TypedName) → Answers s (exprs.Match e (before ++ arm ∷ after)) span h r → (x : TypedSide × Scope) × (side_walk s.aliases arm.side ≡ Ok x)
arm_side s h e [] [] arm span r w = let t = two_arms s e (arm ∷ []) h span r w in absurd (cc)
arm_side s h e [] (two ∷ []) arm span r w = let m = match_ran s e arm two h span r w in (m.first, m.first_is)
arm_side s h e [] (two ∷ three ∷ more) arm span r w = let t = two_arms s e (arm ∷ two ∷ three ∷ more) h span r w in absurd (cc)
arm_side s h e (one ∷ []) [] arm span r w = let m = match_ran s e one arm h span r w in (m.second, m.second_is)
arm_side s h e (one ∷ []) (three ∷ more) arm span r w = let t = two_arms s e (one ∷ arm ∷ three ∷ more) h span r w in absurd (cc)
arm_side s h e (one ∷ two ∷ []) after arm span r w = let t = two_arms s e (one ∷ two ∷ arm ∷ after) h span r w in absurd (cc)
arm_side s h e (one ∷ two ∷ three ∷ before) after arm span r w = let t = two_arms s e (one ∷ two ∷ three ∷ (before ++ arm ∷ after)) h span r w in absurd (cc)

module _ (program : List Item) (asked : List ℕ) (entries : List Entry) (edition end : ℕ) (final : Known × List TypedName) (answers : programs.items_walk entries edition (record { aliases = []; functions = [] }) program [] ≡ Ok final) where
  abbrev pub whole_of : {at : Place} {form : ExprForm} {span : Span} → RunsAt program asked entries edition end final answers at form span → Setting
  whole_of r = setting program asked entries edition end final answers r.aliases r.functions r.in_main

  -- a type that is written where an expression stands
  there : (at : Place) (form : ExprForm) (span : Span) (aliases : List TypedName) (r : RunsAt program asked entries edition end final answers at form span) → at.aliases ≡ aliases → (text : TypeText) (k : HlType) → walk r.aliases text ≡ Ok k → TypeRan aliases text.form text.span
  there at form span aliases r same text k h = subst (λ (l : List TypedName). TypeRan l text.form text.span) (ap (λ (p : Place). p.aliases) r.place_is ∙ same) (text_ran r.aliases text k h)

  pub written_ran : (aliases : List TypedName) (form : TypeForm) (span : Span) → IsWritten program aliases form span → TypeRan aliases form span
  written_ran aliases _ _ (written.of_alias name text span functions holds) =
      let d = declared_ran program asked entries edition end final answers holds.before aliases functions holds.declared (items.Alias name text span ∷ holds.after) holds.is in
      let f = alias_first program asked entries edition end final answers aliases d.functions name text span holds.after d.met d.runs in
      text_ran aliases text f.1.kind f.1.written
  written_ran aliases _ _ (written.of_param name before after param text e span functions holds) =
      let d = declared_ran program asked entries edition end final answers holds.before aliases functions holds.declared (items.Function name (before ++ param ∷ after) text e span ∷ holds.after) holds.is in
      let f = function_first program asked entries edition end final answers aliases d.functions name (before ++ param ∷ after) text e span holds.after d.met d.runs in
      let p = params_at aliases before param after [] f.1.head.params [] refl f.1.heads.params_are in
      text_ran aliases param.kind p.3.kind p.3.written
  written_ran aliases _ _ (written.of_result name params text e span functions holds) =
      let d = declared_ran program asked entries edition end final answers holds.before aliases functions holds.declared (items.Function name params (Some text) e span ∷ holds.after) holds.is in
      let f = function_first program asked entries edition end final answers aliases d.functions name params (Some text) e span holds.after d.met d.runs in
      text_ran aliases text f.1.head.result f.1.heads.result_is
  written_ran aliases _ _ (written.of_let at before after pattern text e stands last span same occurs) =
      let whole = before ++ statements.Let pattern text e stands ∷ after in
      let r = occurs_runs program asked entries edition end final answers at (exprs.Block whole last) span occurs in
      let b = block_ran (whole_of r) r.here whole last span r.found r.runs in
      let l = some_let (whole_of r) before after pattern text e stands r.here.scope r.here.met b.0 b.1 in
      there at (exprs.Block whole last) span aliases r same text l.3.kind l.3.written
  written_ran aliases _ _ (written.of_side at e before after arm pattern text span same occurs binds) =
      let r = occurs_runs program asked entries edition end final answers at (exprs.Match e (before ++ arm ∷ after)) span occurs in
      let a = arm_side (whole_of r) r.here e before after arm span r.found r.runs in
      let q = side_ran r.aliases arm.side pattern text a.0 binds a.1 in
      there at (exprs.Match e (before ++ arm ∷ after)) span aliases r same text q.kind q.written
  written_ran aliases _ _ (written.of_into at text e span same occurs) =
      let r = occurs_runs program asked entries edition end final answers at (exprs.Into text e) span occurs in
      let a = step_there (walk r.aliases text) r.here.met _ r.found (opened (whole_of r) (ExprForm-F.Into text e) (exprs.Into text e) (exprs.rolls-Into text e) span r.here r.found r.runs) in
      there at (exprs.Into text e) span aliases r same text a.0 a.1
  written_ran aliases _ _ (written.of_unwrap_left at text e span same occurs) =
      let r = occurs_runs program asked entries edition end final answers at (exprs.UnwrapLeft text e) span occurs in
      let a = step_there (walk r.aliases text) r.here.met _ r.found (opened (whole_of r) (ExprForm-F.UnwrapLeft text e) (exprs.UnwrapLeft text e) (exprs.rolls-UnwrapLeft text e) span r.here r.found r.runs) in
      there at (exprs.UnwrapLeft text e) span aliases r same text a.0 a.1
  written_ran aliases _ _ (written.of_unwrap_right at text e span same occurs) =
      let r = occurs_runs program asked entries edition end final answers at (exprs.UnwrapRight text e) span occurs in
      let a = step_there (walk r.aliases text) r.here.met _ r.found (opened (whole_of r) (ExprForm-F.UnwrapRight text e) (exprs.UnwrapRight text e) (exprs.rolls-UnwrapRight text e) span r.here r.found r.runs) in
      there at (exprs.UnwrapRight text e) span aliases r same text a.0 a.1
  written_ran aliases _ _ (written.of_is_none at text e span same occurs) =
      let r = occurs_runs program asked entries edition end final answers at (exprs.IsNone text e) span occurs in
      let a = step_there (walk r.aliases text) r.here.met _ r.found (opened (whole_of r) (ExprForm-F.IsNone text e) (exprs.IsNone text e) (exprs.rolls-IsNone text e) span r.here r.found r.runs) in
      there at (exprs.IsNone text e) span aliases r same text a.0 a.1
  written_ran aliases _ _ (written.in_tuple before after part span w) =
      let whole = before ++ part ∷ after in
      let t = written_ran aliases (types.Tuple whole) span w in
      let a = ran (in_turn (map (walk aliases) whole)) _ t.kind (type_layer aliases (TypeForm-F.Tuple whole) (types.Tuple whole) (types.rolls-Tuple whole) span t.kind t.is) in
      let q = in_turn_at aliases before part after a.from a.was in
      text_ran aliases part q.0 q.1
  written_ran aliases _ _ (written.in_array item length span w) =
      let t = written_ran aliases (types.Array item length) span w in
      let a = ran (walk aliases item) _ t.kind (type_layer aliases (TypeForm-F.Array item length) (types.Array item length) (types.rolls-Array item length) span t.kind t.is) in
      text_ran aliases item a.from a.was
  written_ran aliases _ _ (written.in_list item bound span w) =
      let t = written_ran aliases (types.List item bound) span w in
      let a = ran (walk aliases item) _ t.kind (type_layer aliases (TypeForm-F.List item bound) (types.List item bound) (types.rolls-List item bound) span t.kind t.is) in
      text_ran aliases item a.from a.was
  written_ran aliases _ _ (written.in_option item span w) =
      let t = written_ran aliases (types.Option item) span w in
      let a = ran (walk aliases item) _ t.kind (type_layer aliases (TypeForm-F.Option item) (types.Option item) (types.rolls-Option item) span t.kind t.is) in
      text_ran aliases item a.from a.was
  written_ran aliases _ _ (written.in_left left right span w) =
      let t = written_ran aliases (types.Either left right) span w in
      let a = ran (walk aliases left) _ t.kind (type_layer aliases (TypeForm-F.Either left right) (types.Either left right) (types.rolls-Either left right) span t.kind t.is) in
      text_ran aliases left a.from a.was
  written_ran aliases _ _ (written.in_right left right span w) =
      let t = written_ran aliases (types.Either left right) span w in
      let a = ran (walk aliases left) _ t.kind (type_layer aliases (TypeForm-F.Either left right) (types.Either left right) (types.rolls-Either left right) span t.kind t.is) in
      let b = ran (walk aliases right) _ t.kind a.is in
      text_ran aliases right b.from b.was

  whole_pattern : (at : Place) (form : ExprForm) (span : Span) (r : RunsAt program asked entries edition end final answers at form span) (p : Pattern) (text : TypeText) (kind k : HlType) (bound : Scope) → walk at.aliases text ≡ Ok kind → walk r.aliases text ≡ Ok k →
      pattern_walk p k [] ≡ Ok bound → PatternRan p.form p.span kind []
  whole_pattern at form span r p text kind k bound told found binds =
      let same : k ≡ kind = ok_same (sym found ∙ ap (λ (q : Place). walk q.aliases text) r.place_is ∙ told) in
      pattern_ran p kind [] bound [] refl (ap (λ (l : HlType). pattern_walk p l []) (sym same) ∙ binds)

  pub matched_ran : (form : PatternForm) (span : Span) (kind : HlType) (names : Names) → IsMatched program form span kind names → PatternRan form span kind names
  matched_ran _ _ _ _ (written.by_let at before after pattern text e stands last span kind occurs told) =
      let whole = before ++ statements.Let pattern text e stands ∷ after in
      let r = occurs_runs program asked entries edition end final answers at (exprs.Block whole last) span occurs in
      let b = block_ran (whole_of r) r.here whole last span r.found r.runs in
      let l = some_let (whole_of r) before after pattern text e stands r.here.scope r.here.met b.0 b.1 in
      whole_pattern at (exprs.Block whole last) span r pattern text kind l.3.kind l.3.bound told l.3.written l.3.binds
  matched_ran _ _ _ _ (written.by_side at e before after arm pattern text span kind occurs binds told) =
      let r = occurs_runs program asked entries edition end final answers at (exprs.Match e (before ++ arm ∷ after)) span occurs in
      let a = arm_side (whole_of r) r.here e before after arm span r.found r.runs in
      let q = side_ran r.aliases arm.side pattern text a.0 binds a.1 in
      whole_pattern at (exprs.Match e (before ++ arm ∷ after)) span r pattern text kind q.kind q.bound told q.written q.binds
  matched_ran _ _ _ _ (written.by_tuple before after part span kind one ks more names m shape long) =
      let whole = before ++ part ∷ after in
      let t = matched_ran (patterns.Tuple whole) span kind names m in
      let w = pattern_layer (PatternForm-F.Tuple whole) (patterns.Tuple whole) (patterns.rolls-Tuple whole) span kind t.bound t.after t.is in
      let a = ran (steps.wants (parts_of kind) K6 span) _ t.after w in
      let found : ◌≡◌ {A = Option (List HlType)} (Some a.from) (Some (ks ++ one ∷ more)) = sym (wants_ok (parts_of kind) K6 span a.from a.was) ∙ shape in
      let kinds_are : a.from ≡ ks ++ one ∷ more = cc in
      let b = ran (steps.needs (nat_eq (length (map pattern_walk whole)) (length a.from)) K8 span) _ t.after a.is in
      pattern_at before part after ks one more t.bound t.after names long t.named (ap (λ (l : List HlType). patterns_walk (map pattern_walk whole) l t.bound) (sym kinds_are) ∙ b.is)
  matched_ran _ _ _ _ (written.by_array before after part span kind item count names m shape) =
      let whole = before ++ part ∷ after in
      let t = matched_ran (patterns.Array whole) span kind names m in
      let w = pattern_layer (PatternForm-F.Array whole) (patterns.Array whole) (patterns.rolls-Array whole) span kind t.bound t.after t.is in
      let a = ran (steps.wants (array_of kind) K6 span) _ t.after w in
      let found : ◌≡◌ {A = Option (HlType × ℕ)} (Some a.from) (Some (item, count)) = sym (wants_ok (array_of kind) K6 span a.from a.was) ∙ shape in
      let array_is : ◌≡◌ {A = HlType × ℕ} a.from (item, count) = cc in
      let b = ran (steps.needs (nat_eq (length (map pattern_walk whole)) a.from.1) K8 span) _ t.after a.is in
      item_at before part after item t.bound t.after names t.named (ap (λ (x : HlType × ℕ). items_walk (map pattern_walk whole) x.0 t.bound) (sym array_is) ∙ b.is)
