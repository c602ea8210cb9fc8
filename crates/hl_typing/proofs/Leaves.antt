-- Forms without parts, or with one.
use Rattle.std.proofs.Common.{◌≡◌, ℕ, ◌^◌, true, nat_lt, ltb-true, List, [], ◌∷◌, ◌++◌, bytes_eq, Some, Ok, sym, ap, ◌∙◌, subst}
use Rattle.std.specs.Prelude.{IsSome}
use Rattle.hl_data.specs.declared.typed.TypedForm.TheVariants as typed
use Rattle.hl_syntax.specs.declared.kinds.HlType.{HlType}
use Rattle.hl_syntax.specs.declared.kinds.HlType.TheOpen.{HlType-F}
use Rattle.hl_syntax.specs.declared.kinds.HlType.TheVariants as kind
use Rattle.hl_syntax.specs.declared.kinds.TypedName.{TypedName}
use Rattle.hl_syntax.specs.declared.rules.Rule.TheVariants.{K4, K6, K7, K12, K16, K17, K18, K19}
use Rattle.hl_syntax.specs.declared.token.Mark.{Mark}
use Rattle.hl_syntax.specs.declared.tree.ExprForm.TheOpen.{ExprForm-F}
use Rattle.hl_syntax.specs.declared.tree.ExprForm.TheVariants as exprs
use Rattle.hl_syntax.specs.declared.tree.TypeText.{TypeText}
use Rattle.simplicityhl.specs.Kinds.{form, IsSound}
use Rattle.simplicityhl.specs.Written.{walk, then_walk}
use Rattle.hl_meaning.specs.Literals.{literal_value}
use Rattle.simplicityhl.specs.Kinds.{is_sound}
use Rattle.hl_meaning.specs.Values.{encoded}
use Rattle.hl_meaning.specs.Entries.{IsValued}
use Rattle.hl_rules.specs.Exprs.{form_step, may_stand}
use Rattle.hl_rules.specs.Places.{Scope, variable_type, entry_named}
use Rattle.hl_rules.specs.Same.{same_type, same_kind, unit_type, width_of, option_of, either_of}
use Rattle.hl_rules.specs.Steps as steps
use Rattle.hl_rules.specs.Walks.{needs}
use Rattle.hl_typing.specs.Erased as erased
use Rattle.hl_typing.specs.Typing as rule
use Rattle.hl_typing.proofs.Claims.{Setting, IsMet, GoodWalk, GoodForm, FormHolds, Proved, walk_of, at_type}
use Rattle.hl_typing.proofs.Every.{Every, every_rest, every_first, every_found}
use Rattle.hl_typing.proofs.Listed.{apart_more}
use Rattle.hl_typing.proofs.Same.{same_equal, both_true, kinds_equal}
use Rattle.hl_typing.proofs.Shapes.{is_option, is_either, is_word}
use Rattle.hl_typing.proofs.Sound.{walk_sound, opened_sound, bool_sound, option_sound, either_sound}
use Rattle.hl_typing.proofs.Steps.{Apart, ran, ok_same, needs_ok, then_good, step_good, needs_good, wants_good, done_good}

-- parts of a sound type are sound
pub sides_sound : (expected : HlType) (a : HlType × HlType) → kind.Either a.0 a.1 ≡ expected → IsSound expected → IsSound a.0 × IsSound a.1
sides_sound expected a is sound = both_true (is_sound a.0) (is_sound a.1) (opened_sound (HlType-F.Either a.0 a.1) (kind.Either a.0 a.1) (kind.outs-Either a.0 a.1) (subst IsSound (sym is) sound))

item_sound : (expected item : HlType) → kind.Option item ≡ expected → IsSound expected → IsSound item
item_sound expected item is sound = opened_sound (HlType-F.Option item) (kind.Option item) (kind.outs-Option item) (subst IsSound (sym is) sound)

module _ (s : Setting) where
  abbrev M : TypedName → Type 0
  M = IsMet s

  pub variable : (word : List ℕ) → GoodForm s (form_step s.context (ExprForm-F.Name word)) (exprs.Name word)
  variable word span scope expected rule' sound =
      wants_good s.context M (variable_type scope word) K4 span _ (λ known is. needs_good s.context M (same_type known expected) rule' span _ (λ same. done_good s.context M (record {
        typed = rule.name scope expected word (is ∙ ap Some (same_equal known expected same));
        erased = erased.name word;
      })))

  pub truth : GoodForm s (form_step s.context ExprForm-F.True) exprs.True
  truth span scope expected rule' sound =
      needs_good s.context M (same_type kind.Bool expected) rule' span _ (λ same. done_good s.context M (record {
        typed = at_type s scope kind.Bool expected typed.True (same_equal kind.Bool expected same) (rule.truth scope);
        erased = erased.truth;
      }))

  pub falsehood : GoodForm s (form_step s.context ExprForm-F.False) exprs.False
  falsehood span scope expected rule' sound =
      needs_good s.context M (same_type kind.Bool expected) rule' span _ (λ same. done_good s.context M (record {
        typed = at_type s scope kind.Bool expected typed.False (same_equal kind.Bool expected same) (rule.falsehood scope);
        erased = erased.falsehood;
      }))

  pub literal : (word : List ℕ) → GoodForm s (form_step s.context (ExprForm-F.Literal word)) (exprs.Literal word)
  literal word span scope expected rule' sound =
      wants_good s.context M (width_of expected) rule' span _ (λ width is. needs_good s.context M (nat_lt (literal_value word) (2 ^ width)) K7 span _ (λ less. done_good s.context M (record {
        typed = at_type s scope (kind.UInt width) expected (typed.Literal word) (is_word expected width is) (rule.literal scope width word (ltb-true (literal_value word) (2 ^ width) less));
        erased = erased.literal word;
      })))

  pub panic : GoodForm s (form_step s.context ExprForm-F.Panic) exprs.Panic
  panic span scope expected rule' sound = done_good s.context M (record { typed = rule.panic scope expected; erased = erased.panic })

  pub nothing : GoodForm s (form_step s.context ExprForm-F.Nothing) exprs.Nothing
  nothing span scope expected rule' sound =
      wants_good s.context M (option_of expected) rule' span _ (λ item is. done_good s.context M (record {
        typed = at_type s scope (kind.Option item) expected typed.Nothing (is_option expected item is) (rule.nothing scope item);
        erased = erased.nothing;
      }))

  pub some : (p : Proved s) → GoodForm s (form_step s.context (ExprForm-F.Some (walk_of s p))) (exprs.Some p.0)
  some p span scope expected rule' sound =
      wants_good s.context M (option_of expected) rule' span _ (λ item is.
      let same = is_option expected item is in
      then_good s.context M (p.1 scope item K6 (item_sound expected item same sound)) (λ found. done_good s.context M (λ part. record {
        typed = at_type s scope (kind.Option item) expected (typed.Some found) same (rule.some scope item found part.typed);
        erased = erased.some found p.0 part.erased;
      })))

  pub left : (p : Proved s) → GoodForm s (form_step s.context (ExprForm-F.Left (walk_of s p))) (exprs.Left p.0)
  left p span scope expected rule' sound =
      wants_good s.context M (either_of expected) rule' span _ (λ sides is.
      let same = is_either expected sides is in
      then_good s.context M (p.1 scope sides.0 K6 (sides_sound expected sides same sound).0) (λ found. done_good s.context M (λ part. record {
        typed = at_type s scope (kind.Either sides.0 sides.1) expected (typed.Left found) same (rule.left scope sides.0 sides.1 found part.typed);
        erased = erased.left found p.0 part.erased;
      })))

  pub right : (p : Proved s) → GoodForm s (form_step s.context (ExprForm-F.Right (walk_of s p))) (exprs.Right p.0)
  right p span scope expected rule' sound =
      wants_good s.context M (either_of expected) rule' span _ (λ sides is.
      let same = is_either expected sides is in
      then_good s.context M (p.1 scope sides.1 K6 (sides_sound expected sides same sound).1) (λ found. done_good s.context M (λ part. record {
        typed = at_type s scope (kind.Either sides.0 sides.1) expected (typed.Right found) same (rule.right scope sides.0 sides.1 found part.typed);
        erased = erased.right found p.0 part.erased;
      })))

  pub assert : (p : Proved s) → GoodForm s (form_step s.context (ExprForm-F.Assert (walk_of s p))) (exprs.Assert p.0)
  assert p span scope expected rule' sound =
      needs_good s.context M (same_type unit_type expected) rule' span _ (λ same. then_good s.context M (p.1 scope kind.Bool K6 bool_sound) (λ found. done_good s.context M (λ part. record {
        typed = at_type s scope unit_type expected (typed.Assert found) (same_equal unit_type expected same) (rule.assert scope found part.typed);
        erased = erased.assert found p.0 part.erased;
      })))

  pub dbg : (p : Proved s) → GoodForm s (form_step s.context (ExprForm-F.Dbg (walk_of s p))) (exprs.Dbg p.0)
  dbg p span scope expected rule' sound =
      then_good s.context M (p.1 scope expected K6 sound) (λ found. done_good s.context M (λ part. record {
        typed = rule.dbg scope expected found part.typed;
        erased = erased.dbg found p.0 part.erased;
      }))

  pub unwrap : (p : Proved s) → GoodForm s (form_step s.context (ExprForm-F.Unwrap (walk_of s p))) (exprs.Unwrap p.0)
  unwrap p span scope expected rule' sound =
      then_good s.context M (p.1 scope (kind.Option expected) K6 (option_sound expected sound)) (λ found. done_good s.context M (λ part. record {
        typed = rule.unwrap scope expected found part.typed;
        erased = erased.unwrap found p.0 part.erased;
      }))

  -- a type that is written is sound
  abbrev written : (text : TypeText) (k : HlType) → walk s.context.aliases text ≡ Ok k → IsSound k
  written text k is = walk_sound s.context.aliases s.aliases text k is

  pub unwrap_left : (text : TypeText) (p : Proved s) → GoodForm s (form_step s.context (ExprForm-F.UnwrapLeft text (walk_of s p))) (exprs.UnwrapLeft text p.0)
  unwrap_left text p span scope expected rule' sound =
      step_good s.context M (walk s.context.aliases text) (λ other is. then_good s.context M (p.1 scope (kind.Either expected other) K6 (either_sound expected other sound (written text other is))) (λ found.
      done_good s.context M (λ part. record {
        typed = rule.unwrap_left scope expected other found part.typed;
        erased = erased.unwrap_left text other found p.0 is part.erased;
      })))

  pub unwrap_right : (text : TypeText) (p : Proved s) → GoodForm s (form_step s.context (ExprForm-F.UnwrapRight text (walk_of s p))) (exprs.UnwrapRight text p.0)
  unwrap_right text p span scope expected rule' sound =
      step_good s.context M (walk s.context.aliases text) (λ other is. then_good s.context M (p.1 scope (kind.Either other expected) K6 (either_sound other expected (written text other is) sound)) (λ found.
      done_good s.context M (λ part. record {
        typed = rule.unwrap_right scope expected other found part.typed;
        erased = erased.unwrap_right text other found p.0 is part.erased;
      })))

  pub is_none : (text : TypeText) (p : Proved s) → GoodForm s (form_step s.context (ExprForm-F.IsNone text (walk_of s p))) (exprs.IsNone text p.0)
  is_none text p span scope expected rule' sound =
      step_good s.context M (walk s.context.aliases text) (λ item is. needs_good s.context M (same_type kind.Bool expected) rule' span _ (λ same.
      then_good s.context M (p.1 scope (kind.Option item) K6 (option_sound item (written text item is))) (λ found. done_good s.context M (λ part. record {
        typed = at_type s scope kind.Bool expected (typed.IsNone item found) (same_equal kind.Bool expected same) (rule.is_none scope item found part.typed);
        erased = erased.is_none text item found p.0 is part.erased;
      }))))

  pub into : (text : TypeText) (p : Proved s) → GoodForm s (form_step s.context (ExprForm-F.Into text (walk_of s p))) (exprs.Into text p.0)
  into text p span scope expected rule' sound =
      step_good s.context M (walk s.context.aliases text) (λ source is. needs_good s.context M (same_kind (form source) (form expected)) K12 span _ (λ alike.
      then_good s.context M (p.1 scope source K6 (written text source is)) (λ found. done_good s.context M (λ part. record {
        typed = rule.into scope source expected found (kinds_equal (form source) (form expected) alike) part.typed;
        erased = erased.into text source found p.0 is part.erased;
      }))))

  pub param : (word : Mark) → GoodForm s (form_step s.context (ExprForm-F.Param word)) (exprs.Param word)
  param word span scope expected rule' sound =
      wants_good s.context M (entry_named s.context.entries word.text) K18 word.span _ (λ entry is. needs_good s.context M (same_type entry.kind expected) K19 word.span _ (λ same. done_good s.context M
      (let fits = (every_found IsValued (λ e. bytes_eq word.text e.name) s.context.entries entry s.entries is).0 in record {
        typed = rule.value scope expected entry.value (subst (λ k. IsSome (encoded entry.value k)) (same_equal entry.kind expected same) fits.value);
        erased = erased.value word entry is;
      })))

  walked : (word : Mark) (scope : Scope) (expected : HlType) → s.context.in_main ≡ true →
      GoodWalk s (λ met. then_walk (needs (may_stand s.context.edition met word.text expected) K17 word.span met) (λ u. Ok (typed.Witness word.text, met ++ record { name = word.text; kind = expected } ∷ []))) (FormHolds s scope expected (exprs.Witness word))
  walked word scope expected in_main = record {
    kept = λ met after f h all.
        let r = ran (needs (may_stand s.context.edition met word.text expected) K17 word.span met) (λ u. Ok (typed.Witness word.text, met ++ record { name = word.text; kind = expected } ∷ [])) (f, after) h in
        let is : met ++ record { name = word.text; kind = expected } ∷ [] ≡ after = ap (λ p. p.1) (ok_same r.is) in
        every_first M met (record { name = word.text; kind = expected } ∷ []) (subst (Every M) (sym is) all);
    once = λ met after f h o.
        let r = ran (needs (may_stand s.context.edition met word.text expected) K17 word.span met) (λ u. Ok (typed.Witness word.text, met ++ record { name = word.text; kind = expected } ∷ [])) (f, after) h in
        let n = ran (steps.needs (may_stand s.context.edition met word.text expected) K17 word.span) _ r.from r.was in
        subst (Apart s.context.edition) (ap (λ p. p.1) (ok_same r.is))
        (apart_more s.context.edition met (record { name = word.text; kind = expected }) (needs_ok (may_stand s.context.edition met word.text expected) K17 word.span n.from n.was) o);
    holds = λ met after f h told.
        let r = ran (needs (may_stand s.context.edition met word.text expected) K17 word.span met) (λ u. Ok (typed.Witness word.text, met ++ record { name = word.text; kind = expected } ∷ [])) (f, after) h in
        let same = ok_same r.is in
        let is : met ++ record { name = word.text; kind = expected } ∷ [] ≡ after = ap (λ p. p.1) same in
        let form_is : typed.Witness word.text ≡ f = ap (λ p. p.0) same in
        let all = every_rest M met (record { name = word.text; kind = expected } ∷ []) (subst (Every M) (sym is) (told in_main)) in
        subst (FormHolds s scope expected (exprs.Witness word)) form_is (record { typed = rule.witness scope expected word.text all.0; erased = erased.witness word });
  }

  pub witness : (word : Mark) → GoodForm s (form_step s.context (ExprForm-F.Witness word)) (exprs.Witness word)
  witness word span scope expected rule' sound = needs_good s.context M s.context.in_main K16 word.span _ (λ in_main. walked word scope expected in_main)
