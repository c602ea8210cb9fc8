-- Blocks from statement to statement and back: what is made, and that it is typed.
use Rattle.std.proofs.Common.{◌≡◌, ℕ, zero, suc, ◌+◌, ◌-◌, ◌<◌, ◌≤◌, length, List, [], ◌∷◌, ◌++◌, map, take, drop, get_or, Option, Some, None, option_map, refl, sym, ap, ◌∙◌, subst, arith}
use Rattle.std.proofs.Math.Seq.{take-length, drop-length, drop-cons}
use Rattle.hl_constructs.specs.Held.{any_of, last_of, in_expr, in_statement}
use Rattle.hl_data.specs.declared.typed.TypedArm.{TypedArm}
use Rattle.hl_data.specs.declared.typed.TypedExpr.{TypedExpr}
use Rattle.hl_data.specs.declared.typed.TypedForm.{TypedForm, out-TypedForm}
use Rattle.hl_data.specs.declared.typed.TypedForm.TheFolds.{fold_out-TypedStatement, fold-TypedForm, map-TypedStatement}
use Rattle.hl_data.specs.declared.typed.TypedForm.TheOpen.{TypedStatement-F}
use Rattle.hl_data.specs.declared.typed.TypedForm.TheVariants as form
use Rattle.hl_data.specs.declared.typed.TypedStatement.{TypedStatement, out-TypedStatement}
use Rattle.hl_expansions.specs.Expansions.{expansions}
use Rattle.hl_syntax.specs.declared.kinds.HlType.{HlType}
use Rattle.hl_terms.proofs.Forms as forms
use Rattle.hl_terms.specs.Shapes.{Shape, kind_of, pattern_shape}
use Rattle.hl_terms.specs.Translated.{Translator, StatementTranslator, ArmTranslator, form_step, statement_step, arm_step, expression_step, translated, statement_translated, arm_translated, block_term, last_term, before, within}
use Rattle.layout_laws.specs.Scopes.{scope_shape}
use Rattle.scope_layout.specs.Layers.{Scopes, Layer, Names, inside, IsWithin}
use Rattle.simplicity.specs.Arrows.{IsTypedTerm}
use Rattle.simplicity.specs.Canon.{Declared}
use Rattle.simplicity.specs.Makes.{unit}
use Rattle.term_builder.specs.State.{State}
use Rattle.term_builder.specs.Steps.{with_term, MayMake}
use Rattle.term_recipes.specs.Shapes.{bound_in, followed_by}
use Rattle.translate.proofs.Going.{Rest, Next, at_first, rest_at, last_fits}
use Rattle.translate.proofs.Parts.{seen}
use Rattle.translate.proofs.Terms.{typed_here}
use Rattle.translate.specs.Blocks.{Line, Spot, advance, advance_all, ended, before_end, HasInner, IsBeforeSome, LineFits, lines_in}
use Rattle.translate.specs.Fits.{Fits}
use Rattle.translate.specs.Here.{around_of, terms_of, witnesses_in, IsReady, term_in}
use Rattle.translate.specs.Parts.{PartsOf}
use Rattle.translate.specs.declared.place.Place.{Place}

-- Forth.

-- what is known of a block's statements
pub block_rest : (p : Place) (scopes : Scopes) (e : TypedExpr) (ss : List TypedStatement) (last : Option TypedExpr) (s : State) → Fits p scopes e → IsReady p scopes s → e.form ≡ form.Block ss last →
    Rest p (record { layout = scopes; state = s }) ss last
block_rest p scopes e ss last s f r is =
    let x = subst (PartsOf (around_of p) f.names e.kind) (ap out-TypedForm is ∙ form.outs-Block ss last) (seen (around_of p) f.names e.kind e f.typed f.built).parts in
    record { names = f.names; stands = f.stands; kind = e.kind; typed = x.typed; built = x.built; last_built = x.last_built; ready = r }

step_on : (p : Place) (ss : List TypedStatement) (i : ℕ) (d : TypedStatement) (spot : Spot) → i < length ss →
    advance_all p (take (suc i) ss) spot ≡ advance p (out-TypedStatement (get_or ss i d)) (advance_all p (take i ss) spot)
step_on p [] i d spot less = absurd (omega (arith, less))
step_on p (s ∷ ss) zero d spot less = refl
step_on p (s ∷ ss) (suc i) d spot less = step_on p ss i d (advance p (out-TypedStatement s) spot) (omega (arith, less))

module _ (p : Place) (ss : List TypedStatement) (last : Option TypedExpr) (start : Spot) (rest : Rest p start ss last) where
  abbrev spot_at : ℕ → Spot
  spot_at i = advance_all p (take i ss) start

  pub next_at : (i : ℕ) (s : TypedStatement) → i < length ss → s ≡ get_or ss i s → Next p (spot_at i) (out-TypedStatement s) (drop (suc i) ss) last
  next_at i s less at =
      let r = rest_at p ss i start last rest in
      at_first p (spot_at i) s (drop (suc i) ss) last (subst (λ l. Rest p (spot_at i) l last) (drop-cons ss i s less ∙ ap (λ x. x ∷ drop (suc i) ss) (sym at)) r)

  pub ready_at : (i : ℕ) → IsReady p (spot_at i).layout (spot_at i).state
  ready_at i = (rest_at p ss i start last rest).ready

  pub next_spot : (i : ℕ) (s : TypedStatement) → i < length ss → s ≡ get_or ss i s → spot_at (i + 1) ≡ advance p (out-TypedStatement s) (spot_at i)
  next_spot i s less at =
      let more : i + 1 ≡ suc i = omega arith in
      ap spot_at more ∙ step_on p ss i s start less ∙ ap (λ x. advance p (out-TypedStatement x) (spot_at i)) (sym at)

  all_of : (n : ℕ) → n ≡ length ss → (take n ss ≡ ss) × (drop n ss ≡ [])
  all_of n long = (ap (λ m. take m ss) long ∙ take-length ss, ap (λ m. drop m ss) long ∙ drop-length ss)

  pub at_end : (n : ℕ) → n ≡ length ss → Rest p (spot_at n) [] last
  at_end n long = subst (λ l. Rest p (spot_at n) l last) (all_of n long).1 (rest_at p ss n start last rest)

-- Back.

-- a statement before what comes after it
abbrev pub by_line : Place → Scopes → Line → Declared → Declared
by_line p scopes (TypedStatement-F.Let q l e) rest = bound_in (term_in p (scope_shape scopes) e) (kind_of (scope_shape scopes)) rest
by_line p scopes (TypedStatement-F.Plain e) rest = followed_by (term_in p (scope_shape scopes) e) rest

abbrev layout_after : Line → Scopes → Scopes
layout_after (TypedStatement-F.Let q l e) scopes = inside (Names q l) scopes
layout_after (TypedStatement-F.Plain e) scopes = scopes

module _ (p : Place) where
  abbrev line_translated : Line → StatementTranslator
  line_translated (TypedStatement-F.Let q l e) = record { value = translated expansions (terms_of p) (witnesses_in p) e; binds = Some (pattern_shape q l) }
  line_translated (TypedStatement-F.Plain e) = record { value = translated expansions (terms_of p) (witnesses_in p) e; binds = None }

  abbrev form_of : TypedForm → HlType → Translator
  form_of f = fold-TypedForm (HlType → Translator) StatementTranslator ArmTranslator Translator (form_step expansions (terms_of p) (witnesses_in p)) (statement_step expansions (terms_of p) (witnesses_in p)) (arm_step expansions (terms_of p) (witnesses_in p)) (expression_step expansions (terms_of p) (witnesses_in p)) f

  open_line : (s : TypedStatement) → statement_translated expansions (terms_of p) (witnesses_in p) s ≡ line_translated (out-TypedStatement s)
  unfolding translated statement_translated arm_translated
  open_line s = fold_out-TypedStatement (HlType → Translator) StatementTranslator ArmTranslator Translator (form_step expansions (terms_of p) (witnesses_in p)) (statement_step expansions (terms_of p) (witnesses_in p)) (arm_step expansions (terms_of p) (witnesses_in p)) (expression_step expansions (terms_of p) (witnesses_in p)) s ∙ by_layer (out-TypedStatement s)
    where
      by_layer : (x : Line) → statement_step expansions (terms_of p) (witnesses_in p) (map-TypedStatement TypedForm TypedStatement TypedArm TypedExpr (HlType → Translator) StatementTranslator ArmTranslator Translator form_of (statement_translated expansions (terms_of p) (witnesses_in p)) (arm_translated expansions (terms_of p) (witnesses_in p)) (translated expansions (terms_of p) (witnesses_in p)) x) ≡ line_translated x
      by_layer (TypedStatement-F.Let q l e) = refl
      by_layer (TypedStatement-F.Plain e) = refl

  line_first : (x : Line) (scopes : Scopes) (ss : List TypedStatement) (last : Option TypedExpr) →
      before (line_translated x).binds ((line_translated x).value (scope_shape scopes)) (scope_shape scopes) (block_term (map (statement_translated expansions (terms_of p) (witnesses_in p)) ss) (option_map (translated expansions (terms_of p) (witnesses_in p)) last) (within (line_translated x).binds (scope_shape scopes)))
      ≡ by_line p scopes x (lines_in p (scope_shape (layout_after x scopes)) ss last)
  line_first (TypedStatement-F.Let q l e) scopes ss last = refl
  line_first (TypedStatement-F.Plain e) scopes ss last = refl

  line_is : (s : TypedStatement) (scopes : Scopes) (ss : List TypedStatement) (last : Option TypedExpr) →
      lines_in p (scope_shape scopes) (s ∷ ss) last ≡ by_line p scopes (out-TypedStatement s) (lines_in p (scope_shape (layout_after (out-TypedStatement s) scopes)) ss last)
  line_is s scopes ss last =
      ap (λ (t : StatementTranslator). before t.binds (t.value (scope_shape scopes)) (scope_shape scopes) (block_term (map (statement_translated expansions (terms_of p) (witnesses_in p)) ss) (option_map (translated expansions (terms_of p) (witnesses_in p)) last) (within t.binds (scope_shape scopes)))) (open_line s)
      ∙ line_first (out-TypedStatement s) scopes ss last

  typed_after : (x : Line) (scopes : Scopes) (rest : Declared) → IsTypedTerm (by_line p scopes x rest) → IsTypedTerm rest
  typed_after (TypedStatement-F.Let q l e) scopes rest h = h.2
  typed_after (TypedStatement-F.Plain e) scopes rest h = h.1.2

  same_layout : (x : Line) (spot : Spot) → (advance p x spot).layout ≡ layout_after x spot.layout
  same_layout (TypedStatement-F.Let q l e) spot = refl
  same_layout (TypedStatement-F.Plain e) spot = refl

  pub typed_from : (ss : List TypedStatement) (last : Option TypedExpr) (i : ℕ) (spot : Spot) → IsTypedTerm (lines_in p (scope_shape spot.layout) ss last) →
      IsTypedTerm (lines_in p (scope_shape (advance_all p (take i ss) spot).layout) (drop i ss) last)
  typed_from ss last zero spot h = h
  typed_from [] last (suc i) spot h = h
  typed_from (s ∷ ss) last (suc i) spot h =
      typed_from ss last i (advance p (out-TypedStatement s) spot)
      (subst (λ l. IsTypedTerm (lines_in p (scope_shape l) ss last)) (sym (same_layout (out-TypedStatement s) spot))
      (typed_after (out-TypedStatement s) spot.layout _ (subst IsTypedTerm (line_is s spot.layout ss last) h)))

  -- one turn back
  back : (x : Line) (spot : Spot) (rest : Declared) → IsReady p spot.layout spot.state → ended x (with_term rest (advance p x spot).state) ≡ with_term (by_line p spot.layout x rest) spot.state
  back (TypedStatement-F.Let q l e) spot rest r = ap (λ a. with_term (bound_in (term_in p (scope_shape spot.layout) e) a rest) spot.state) r.here
  back (TypedStatement-F.Plain e) spot rest r = refl

  two_made : (x : Line) (spot : Spot) (rest : Declared) → 2 ≤ length (before_end x (with_term rest (advance p x spot).state)).made
  two_made (TypedStatement-F.Let q l e) spot rest = omega arith
  two_made (TypedStatement-F.Plain e) spot rest = omega arith

  has_inner : (x : Line) (spot : Spot) → HasInner x (advance p x spot).layout
  has_inner (TypedStatement-F.Let q l e) spot = omega arith
  has_inner (TypedStatement-F.Plain e) spot = tt

  abbrev outer_of : Scopes → Scopes
  outer_of s = record { root = s.root; bound = drop 1 s.bound }

  layout_back : (x : Line) (spot : Spot) (old new : Scopes) → old ≡ (advance p x spot).layout → IsBeforeSome x old new → new ≡ spot.layout
  layout_back (TypedStatement-F.Let q l e) spot old new at h = ap outer_of (sym h.1 ∙ at)
  layout_back (TypedStatement-F.Plain e) spot old new at h = h ∙ at

module _ (p : Place) (ss : List TypedStatement) (last : Option TypedExpr) (start : Spot) (rest : Rest p start ss last) (typed : IsTypedTerm (lines_in p (scope_shape start.layout) ss last)) where
  abbrev spot_of : ℕ → Spot
  spot_of i = advance_all p (take i ss) start

  abbrev from : ℕ → Declared
  from i = lines_in p (scope_shape (spot_of i).layout) (drop i ss) last

  module _ (i : ℕ) (s : TypedStatement) (less : i < length ss) (at : s ≡ get_or ss i s) where
    spot_next : spot_of (suc i) ≡ advance p (out-TypedStatement s) (spot_of i)
    spot_next = step_on p ss i s start less ∙ ap (λ x. advance p (out-TypedStatement x) (spot_of i)) (sym at)

    from_is : from i ≡ by_line p (spot_of i).layout (out-TypedStatement s) (from (suc i))
    from_is =
        ap (λ l. lines_in p (scope_shape (spot_of i).layout) l last) (drop-cons ss i s less ∙ ap (λ x. x ∷ drop (suc i) ss) (sym at))
        ∙ line_is p s (spot_of i).layout (drop (suc i) ss) last
        ∙ ap (λ l. by_line p (spot_of i).layout (out-TypedStatement s) (lines_in p (scope_shape l) (drop (suc i) ss) last)) (sym (same_layout p (out-TypedStatement s) (spot_of i)) ∙ ap (λ (x : Spot). x.layout) (sym spot_next))

    module _ (cur : State) (is : cur ≡ with_term (from (suc i)) (spot_of (suc i)).state) where
      cur_is : cur ≡ with_term (from (suc i)) (advance p (out-TypedStatement s) (spot_of i)).state
      cur_is = is ∙ ap (λ (x : Spot). with_term (from (suc i)) x.state) spot_next

      pub ended_is : ended (out-TypedStatement s) cur ≡ with_term (from i) (spot_of i).state
      ended_is =
          ap (ended (out-TypedStatement s)) cur_is
          ∙ back p (out-TypedStatement s) (spot_of i) (from (suc i)) (rest_at p ss i start last rest).ready
          ∙ ap (λ t. with_term t (spot_of i).state) (sym from_is)

      pub may_end : MayMake 2 (before_end (out-TypedStatement s) cur) (ended (out-TypedStatement s) cur)
      may_end =
          subst (MayMake 2 (before_end (out-TypedStatement s) cur)) (sym ended_is)
          (record {
            enough = subst (λ c. 2 ≤ length (before_end (out-TypedStatement s) c).made) (sym cur_is) (two_made p (out-TypedStatement s) (spot_of i) (from (suc i)));
            typed = typed_from p ss last i start typed;
          })

    pub inner_there : (layout : Scopes) → layout ≡ (spot_of (suc i)).layout → HasInner (out-TypedStatement s) layout
    inner_there layout is = subst (HasInner (out-TypedStatement s)) (sym (is ∙ ap (λ (x : Spot). x.layout) spot_next)) (has_inner p (out-TypedStatement s) (spot_of i))

    pub layout_before : (old new : Scopes) → old ≡ (spot_of (suc i)).layout → IsBeforeSome (out-TypedStatement s) old new → new ≡ (spot_of i).layout
    layout_before old new is h = layout_back p (out-TypedStatement s) (spot_of i) old new (is ∙ ap (λ (x : Spot). x.layout) spot_next) h

-- the whole block
pub block_is : (p : Place) (scopes : Scopes) (e : TypedExpr) (ss : List TypedStatement) (last : Option TypedExpr) → e.form ≡ form.Block ss last → term_in p (scope_shape scopes) e ≡ lines_in p (scope_shape scopes) ss last
block_is p scopes e ss last is = forms.term-Block expansions (terms_of p) (witnesses_in p) e e.kind refl ss last is (scope_shape scopes)

-- What is known of a block at its beginning.

pub record Begun (p : Place) (ss : List TypedStatement) (last : Option TypedExpr) (start : Spot) : Type 0 where
  pub rest : Rest p start ss last
  pub typed : IsTypedTerm (lines_in p (scope_shape start.layout) ss last)

pub begun : (p : Place) (scopes : Scopes) (e : TypedExpr) (ss : List TypedStatement) (last : Option TypedExpr) (s : State) → Fits p scopes e → IsReady p scopes s → e.form ≡ form.Block ss last →
    (lines : List TypedStatement) → lines ≡ ss → Begun p lines last (record { layout = scopes; state = s })
begun p scopes e ss last s f r is lines same =
    subst (λ l. Begun p l last (record { layout = scopes; state = s })) (sym same)
    (record { rest = block_rest p scopes e ss last s f r is; typed = subst IsTypedTerm (block_is p scopes e ss last is) (typed_here p scopes e f) })

module _ (p : Place) (ss : List TypedStatement) (last : Option TypedExpr) (start : Spot) (b : Begun p ss last start) where
  module _ (layout : Scopes) (state : State) where
    abbrev spot : Spot
    spot = record { layout = layout; state = state }

    -- before a statement
    pub line_goes : (i : ℕ) (s : TypedStatement) → i < length ss → s ≡ get_or ss i s → advance_all p (take i ss) start ≡ spot → LineFits p layout (out-TypedStatement s) × IsReady p layout state
    line_goes i s less at is =
        subst (λ (x : Spot). LineFits p x.layout (out-TypedStatement s) × IsReady p x.layout x.state) is ((next_at p ss last start b.rest i s less at).fits, ready_at p ss last start b.rest i)

    -- after it
    pub line_gone : (i : ℕ) (s : TypedStatement) (new_layout : Scopes) (new_state : State) → i < length ss → s ≡ get_or ss i s → advance_all p (take i ss) start ≡ spot →
        new_layout ≡ (advance p (out-TypedStatement s) spot).layout → new_state ≡ (advance p (out-TypedStatement s) spot).state →
        advance_all p (take (i + 1) ss) start ≡ record { layout = new_layout; state = new_state }
    line_gone i s new_layout new_state less at is l m =
        next_spot p ss last start b.rest i s less at ∙ ap (advance p (out-TypedStatement s)) is ∙ rw (l, m) refl

    -- after all of them
    module _ (n : ℕ) (long : n ≡ length ss) (is : advance_all p (take n ss) start ≡ spot) where
      pub last_goes : (e : TypedExpr) → last ≡ Some e → Fits p layout e × IsReady p layout state
      last_goes e same =
          let r = subst (λ l. Rest p (advance_all p (take n ss) start) [] l) same (at_end p ss last start b.rest n long) in
          subst (λ (x : Spot). Fits p x.layout e × IsReady p x.layout x.state) is (last_fits p (advance_all p (take n ss) start) e r, r.ready)

      whole : advance_all p (take (length ss - 0) ss) start ≡ spot
      whole = let none : length ss - 0 ≡ n = omega (arith, long) in ap (λ m. advance_all p (take m ss) start) none ∙ is

      none_left : drop (length ss - 0) ss ≡ []
      none_left = let none : length ss - 0 ≡ length ss = omega arith in ap (λ m. drop m ss) none ∙ drop-length ss

      pub layout_at_last : layout ≡ (advance_all p (take (length ss - 0) ss) start).layout
      layout_at_last = ap (λ (x : Spot). x.layout) (sym whole)

      pub state_at_last : (new : State) (t : Declared) → new ≡ with_term t state → t ≡ last_term (option_map (translated expansions (terms_of p) (witnesses_in p)) last) (scope_shape layout) →
          new ≡ with_term (lines_in p (scope_shape layout) (drop (length ss - 0) ss) last) (advance_all p (take (length ss - 0) ss) start).state
      state_at_last new t h same =
          h ∙ ap (λ x. with_term x state) (same ∙ ap (λ l. lines_in p (scope_shape layout) l last) (sym none_left))
          ∙ ap (λ (x : Spot). with_term (lines_in p (scope_shape layout) (drop (length ss - 0) ss) last) x.state) (sym whole)

  -- on the way back
  module _ (done i : ℕ) (s : TypedStatement) (less : done < length ss) (place : i ≡ length ss - 1 - done) (at : s ≡ get_or ss i s) (layout : Scopes) (state : State)
      (at_layout : layout ≡ (advance_all p (take (length ss - done) ss) start).layout)
      (at_state : state ≡ with_term (lines_in p (scope_shape layout) (drop (length ss - done) ss) last) (advance_all p (take (length ss - done) ss) start).state) where
    next : length ss - done ≡ suc i
    next = omega (arith, less, place)

    inside_all : i < length ss
    inside_all = omega (arith, less, place)

    is_next : state ≡ with_term (lines_in p (scope_shape (advance_all p (take (suc i) ss) start).layout) (drop (suc i) ss) last) (advance_all p (take (suc i) ss) start).state
    is_next =
        at_state ∙ ap (λ l. with_term (lines_in p (scope_shape l) (drop (length ss - done) ss) last) (advance_all p (take (length ss - done) ss) start).state) at_layout
        ∙ ap (λ m. with_term (lines_in p (scope_shape (advance_all p (take m ss) start).layout) (drop m ss) last) (advance_all p (take m ss) start).state) next

    layout_next : layout ≡ (advance_all p (take (suc i) ss) start).layout
    layout_next = at_layout ∙ ap (λ m. (advance_all p (take m ss) start).layout) next

    pub end_open : HasInner (out-TypedStatement s) layout
    end_open = inner_there p ss last start b.rest b.typed i s inside_all at layout layout_next

    pub end_makes : MayMake 2 (before_end (out-TypedStatement s) state) (ended (out-TypedStatement s) state)
    end_makes = may_end p ss last start b.rest b.typed i s inside_all at state is_next

    one_back : length ss - (done + 1) ≡ i
    one_back = omega (arith, less, place)

    pub end_layout : (new : Scopes) → IsBeforeSome (out-TypedStatement s) layout new → new ≡ (advance_all p (take (length ss - (done + 1)) ss) start).layout
    end_layout new h = layout_before p ss last start b.rest b.typed i s inside_all at layout new layout_next h ∙ ap (λ m. (advance_all p (take m ss) start).layout) (sym one_back)

    pub end_state : (new : State) (new_layout : Scopes) → new ≡ ended (out-TypedStatement s) state → new_layout ≡ (advance_all p (take (length ss - (done + 1)) ss) start).layout →
        new ≡ with_term (lines_in p (scope_shape new_layout) (drop (length ss - (done + 1)) ss) last) (advance_all p (take (length ss - (done + 1)) ss) start).state
    end_state new new_layout h l =
        h ∙ ended_is p ss last start b.rest b.typed i s inside_all at state is_next
        ∙ ap (λ m. with_term (lines_in p (scope_shape (advance_all p (take m ss) start).layout) (drop m ss) last) (advance_all p (take m ss) start).state) (sym one_back)
        ∙ ap (λ k. with_term (lines_in p (scope_shape k) (drop (length ss - (done + 1)) ss) last) (advance_all p (take (length ss - (done + 1)) ss) start).state) (sym l)

-- What each part of a block needs, as the search for a proof takes it.
module _ (p : Place) (scopes : Scopes) (e : TypedExpr) (ss : List TypedStatement) (last : Option TypedExpr) (s : State) (f : Fits p scopes e) (r : IsReady p scopes s) (is : e.form ≡ form.Block ss last) (lines : List TypedStatement) (same : lines ≡ ss)
    (i : ℕ) (layout : Scopes) (state : State) (at : advance_all p (take i lines) (record { layout = scopes; state = s }) ≡ record { layout = layout; state = state }) where
  pub block_line_fits : (line : TypedStatement) → i < length lines → line ≡ get_or lines i line → LineFits p layout (out-TypedStatement line)
  block_line_fits line less there = (line_goes p lines last (record { layout = scopes; state = s }) (begun p scopes e ss last s f r is lines same) layout state i line less there at).0

  pub block_line_ready : IsReady p layout state
  block_line_ready = subst (λ (x : Spot). IsReady p x.layout x.state) at (ready_at p lines last (record { layout = scopes; state = s }) (begun p scopes e ss last s f r is lines same).rest i)

  pub block_last_fits : (x : TypedExpr) → length lines ≤ i → i ≤ length lines → last ≡ Some x → Fits p layout x
  block_last_fits x far near some = (last_goes p lines last (record { layout = scopes; state = s }) (begun p scopes e ss last s f r is lines same) layout state i (omega (arith, far, near)) at x some).0

-- What is made at the last expression, and in the end.
module _ (p : Place) (ss : List TypedStatement) (last : Option TypedExpr) (start : Spot) (b : Begun p ss last start) (layout : Scopes) (state : State) (n : ℕ) (long : n ≡ length ss)
    (is : advance_all p (take n ss) start ≡ record { layout = layout; state = state }) (new_layout : Scopes) (same : new_layout ≡ layout) where
  pub ends_layout : new_layout ≡ (advance_all p (take (length ss - 0) ss) start).layout
  ends_layout = same ∙ layout_at_last p ss last start b layout state n long is

  abbrev Ends : State → Type 0
  Ends new = new ≡ with_term (lines_in p (scope_shape new_layout) (drop (length ss - 0) ss) last) (advance_all p (take (length ss - 0) ss) start).state

  ends_by : (new : State) (t : Declared) → new ≡ with_term t state → t ≡ last_term (option_map (translated expansions (terms_of p) (witnesses_in p)) last) (scope_shape layout) → Ends new
  ends_by new t h e =
      state_at_last p ss last start b layout state n long is new t h e
      ∙ ap (λ l. with_term (lines_in p (scope_shape l) (drop (length ss - 0) ss) last) (advance_all p (take (length ss - 0) ss) start).state) (sym same)

  pub ends_some : (new : State) (x : TypedExpr) → last ≡ Some x → new ≡ with_term (term_in p (scope_shape layout) x) state → Ends new
  ends_some new x some h = ends_by new (term_in p (scope_shape layout) x) h (ap (λ o. last_term (option_map (translated expansions (terms_of p) (witnesses_in p)) o) (scope_shape layout)) (sym some))

  pub ends_none : (new : State) → last ≡ None → new ≡ with_term (unit state.here) state → Ends new
  ends_none new none h =
      let ready = subst (λ (x : Spot). IsReady p x.layout x.state) is (ready_at p ss last start b.rest n) in
      ends_by new (unit state.here) h (ap unit ready.here ∙ ap (λ o. last_term (option_map (translated expansions (terms_of p) (witnesses_in p)) o) (scope_shape layout)) (sym none))

pub block_done : (p : Place) (scopes : Scopes) (e : TypedExpr) (ss : List TypedStatement) (last : Option TypedExpr) (s : State) → e.form ≡ form.Block ss last → (lines : List TypedStatement) → lines ≡ ss → (m : ℕ) → m ≡ 0 → (layout : Scopes) (state : State) →
    layout ≡ (advance_all p (take m lines) (record { layout = scopes; state = s })).layout → state ≡ with_term (lines_in p (scope_shape layout) (drop m lines) last) (advance_all p (take m lines) (record { layout = scopes; state = s })).state →
    state ≡ with_term (term_in p (scope_shape scopes) e) s
block_done p scopes e ss last s is lines same m none layout state l h =
    h ∙ ap (λ k. with_term (lines_in p (scope_shape k) (drop m lines) last) (advance_all p (take m lines) (record { layout = scopes; state = s })).state) l
    ∙ ap (λ k. with_term (lines_in p (scope_shape (advance_all p (take k lines) (record { layout = scopes; state = s })).layout) (drop k lines) last) (advance_all p (take k lines) (record { layout = scopes; state = s })).state) none
    ∙ ap (λ l. with_term (lines_in p (scope_shape scopes) l last) s) same
    ∙ ap (λ t. with_term t s) (sym (block_is p scopes e ss last is))
