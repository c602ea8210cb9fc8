-- What the walk of a pattern binds.
use Rattle.std.proofs.Common.{◌≡◌, ℕ, true, not, nat_eq, eqb-true, List, [], ◌∷◌, ◌++◌, length, map, replicate, Ok, sym, ap, ◌∙◌, subst, append_assoc, append-nil, arith}
use Rattle.std.proofs.lemmas.List.{length-map}
use Rattle.hl_syntax.specs.declared.kinds.HlType.{HlType}
use Rattle.hl_syntax.specs.declared.token.Span.{Span}
use Rattle.hl_syntax.specs.declared.tree.Pattern.{Pattern, roll-Pattern}
use Rattle.hl_syntax.specs.declared.tree.PatternForm.{PatternForm, roll-PatternForm, map-PatternForm}
use Rattle.hl_syntax.specs.declared.tree.PatternForm.TheOpen.{PatternForm-F, Pattern-F}
use Rattle.hl_syntax.specs.declared.tree.PatternForm.TheFolds.{fold-PatternForm, fold-roll-PatternForm, fold_out-Pattern, ind-Pattern}
use Rattle.hl_syntax.specs.declared.tree.PatternForm.TheVariants as patterns
use Rattle.hl_rules.specs.Names.{is_reserved, variable_words}
use Rattle.hl_rules.specs.Patterns.{PatternWalk, pattern_walk, pattern_step, patterns_walk, items_walk}
use Rattle.hl_rules.specs.Places.{Scope, has_name}
use Rattle.hl_rules.specs.Same.{parts_of, array_of}
use Rattle.hl_rules.specs.Steps.{needs, wants}
use Rattle.hl_typing.specs.Patterns as rule
use Rattle.hl_typing.specs.Patterns.{Once, Matched, PatternAt, PatternsAt, Binds, BindsOnce}
use Rattle.hl_typing.proofs.Once.{once_more, not_true}
use Rattle.hl_typing.proofs.Shapes.{is_tuple, is_array}
use Rattle.hl_typing.proofs.Steps.{ran, ok_same, needs_ok, wants_ok}

-- the names that are bound after those before
pub record Bound (at : Matched) (before after : Scope) : Type 0 where
  pub names : Scope
  pub is : after ≡ before ++ names
  pub binds : Binds at names
  pub once : Once before → Once after

bound_none : (at : Matched) (before after : Scope) → Binds at [] → before ≡ after → Bound at before after
bound_none at before after binds is = record { names = []; is = sym is ∙ sym (append-nil before); binds = binds; once = subst Once is }

bound_more : (k : HlType) (ks : List HlType) (p : Pattern) (ps : List Pattern) (before middle after : Scope) → Bound (PatternAt k p.form) before middle → Bound (PatternsAt ks ps) middle after → Bound (PatternsAt (k ∷ ks) (p ∷ ps)) before after
bound_more k ks p ps before middle after a b = record {
  names = a.names ++ b.names;
  is = b.is ∙ ap (λ xs. xs ++ b.names) a.is ∙ append_assoc before a.names b.names;
  binds = rule.one_more k ks p ps a.names b.names a.binds b.binds;
  once = λ h. b.once (a.once h);
}

abbrev form_walk : PatternForm → Span → PatternWalk
form_walk f = fold-PatternForm (Span → PatternWalk) PatternWalk pattern_step (λ p. p.form p.span) f

abbrev WalkBinds : (Span → PatternWalk) → PatternForm → Type 0
WalkBinds walk f = (span : Span) (k : HlType) (before after : Scope) → walk span k before ≡ Ok after → Bound (PatternAt k f) before after

abbrev OfForm : PatternForm → Type 0
OfForm f = WalkBinds (form_walk f) f

abbrev OfPattern : Pattern → Type 0
OfPattern p = (k : HlType) (before after : Scope) → pattern_walk p k before ≡ Ok after → Bound (PatternAt k p.form) before after

abbrev Forms : Type 0
Forms = (f : PatternForm) × OfForm f

abbrev Patterns : Type 0
Patterns = (p : Pattern) × OfPattern p

abbrev first : Patterns → Pattern
first e = e.0

parts_bind : (parts : List Patterns) (ks : List HlType) (before after : Scope) → length parts ≡ length ks → patterns_walk (map pattern_walk (map first parts)) ks before ≡ Ok after →
    Bound (PatternsAt ks (map first parts)) before after
parts_bind [] [] before after long h = bound_none (PatternsAt [] []) before after rule.no_more (ok_same h)
parts_bind [] (k ∷ ks) before after long h = absurd (omega (arith, long))
parts_bind (e ∷ parts) [] before after long h = absurd (omega (arith, long))
parts_bind (e ∷ parts) (k ∷ ks) before after long h =
    let r = ran (pattern_walk e.0 k before) (patterns_walk (map pattern_walk (map first parts)) ks) after h in
    bound_more k ks e.0 (map first parts) before r.from after (e.1 k before r.from r.was) (parts_bind parts ks r.from after (omega (arith, long)) r.is)

items_bind : (parts : List Patterns) (k : HlType) (before after : Scope) → items_walk (map pattern_walk (map first parts)) k before ≡ Ok after →
    Bound (PatternsAt (replicate (length parts) k) (map first parts)) before after
items_bind [] k before after h = bound_none (PatternsAt [] []) before after rule.no_more (ok_same h)
items_bind (e ∷ parts) k before after h =
    let r = ran (pattern_walk e.0 k before) (items_walk (map pattern_walk (map first parts)) k) after h in
    bound_more k (replicate (length parts) k) e.0 (map first parts) before r.from after (e.1 k before r.from r.was) (items_bind parts k r.from after r.is)

many : (parts : List Patterns) (n : ℕ) → nat_eq (length (map pattern_walk (map first parts))) n ≡ true → length parts ≡ n
many parts n h = sym (length-map parts first) ∙ sym (length-map (map first parts) pattern_walk) ∙ eqb-true (length (map pattern_walk (map first parts))) n h

-- a form by its parts
made : (layer : PatternForm-F PatternForm Pattern) (form : PatternForm) → roll-PatternForm layer ≡ form →
    WalkBinds (pattern_step (map-PatternForm PatternForm Pattern (Span → PatternWalk) PatternWalk form_walk pattern_walk layer)) form → OfForm (roll-PatternForm layer)
made layer form is h =
    let walks = fold-roll-PatternForm (Span → PatternWalk) PatternWalk pattern_step (λ p. p.form p.span) layer in
    subst (λ (w : Span → PatternWalk). WalkBinds w (roll-PatternForm layer)) (sym walks)
    (subst (WalkBinds (pattern_step (map-PatternForm PatternForm Pattern (Span → PatternWalk) PatternWalk form_walk pattern_walk layer))) (sym is) h)

abbrev WalkOf : PatternForm-F PatternForm Pattern → Span → PatternWalk
WalkOf layer = pattern_step (map-PatternForm PatternForm Pattern (Span → PatternWalk) PatternWalk form_walk pattern_walk layer)

name_binds : (word : List ℕ) → WalkBinds (WalkOf (PatternForm-F.Name word)) (patterns.Name word)
name_binds word span k before after h =
    let a = ran (needs (not (is_reserved variable_words word)) _ span) _ after h in
    let b = ran (needs (not (has_name before word)) _ span) _ after a.is in
    record {
      names = record { name = word; kind = k } ∷ [];
      is = sym (ok_same b.is);
      binds = rule.name k word;
      once = λ o. subst Once (ok_same b.is) (once_more before (record { name = word; kind = k }) o (not_true (has_name before word) (needs_ok _ _ span b.from b.was)));
    }

tuple_binds : (parts : List Patterns) → WalkBinds (WalkOf (PatternForm-F.Tuple (map first parts))) (patterns.Tuple (map first parts))
tuple_binds parts span k before after h =
    let a = ran (wants (parts_of k) _ span) _ after h in
    let b = ran (needs (nat_eq (length (map pattern_walk (map first parts))) (length a.from)) _ span) _ after a.is in
    let is = is_tuple k a.from (wants_ok (parts_of k) _ span a.from a.was) in
    let bound = parts_bind parts a.from before after (many parts (length a.from) (needs_ok _ _ span b.from b.was)) b.is in
    record {
      names = bound.names;
      is = bound.is;
      binds = subst (λ k. Binds (PatternAt k (patterns.Tuple (map first parts))) bound.names) is (rule.tuple a.from (map first parts) bound.names bound.binds);
      once = bound.once;
    }

array_binds : (parts : List Patterns) → WalkBinds (WalkOf (PatternForm-F.Array (map first parts))) (patterns.Array (map first parts))
array_binds parts span k before after h =
    let a = ran (wants (array_of k) _ span) _ after h in
    let b = ran (needs (nat_eq (length (map pattern_walk (map first parts))) a.from.1) _ span) _ after a.is in
    let is = is_array k a.from (wants_ok (array_of k) _ span a.from a.was) in
    let bound = items_bind parts a.from.0 before after b.is in
    let as_many : length parts ≡ a.from.1 = many parts a.from.1 (needs_ok _ _ span b.from b.was) in
    let binds = subst (λ n. Binds (PatternsAt (replicate n a.from.0) (map first parts)) bound.names) as_many bound.binds in
    record {
      names = bound.names;
      is = bound.is;
      binds = subst (λ k. Binds (PatternAt k (patterns.Array (map first parts))) bound.names) is (rule.array a.from.0 a.from.1 (map first parts) bound.names binds);
      once = bound.once;
    }

form_binds : (y : PatternForm-F Forms Patterns) → OfForm (roll-PatternForm (map-PatternForm Forms Patterns PatternForm Pattern (λ e. e.0) first y))
form_binds (PatternForm-F.Name word) = made (PatternForm-F.Name word) (patterns.Name word) (patterns.rolls-Name word) (name_binds word)
form_binds PatternForm-F.Ignore = made PatternForm-F.Ignore patterns.Ignore patterns.rolls-Ignore (λ span k before after h. bound_none (PatternAt k patterns.Ignore) before after (rule.ignored k) (ok_same h))
form_binds (PatternForm-F.Tuple parts) = made (PatternForm-F.Tuple (map first parts)) (patterns.Tuple (map first parts)) (patterns.rolls-Tuple (map first parts)) (tuple_binds parts)
form_binds (PatternForm-F.Array parts) = made (PatternForm-F.Array (map first parts)) (patterns.Array (map first parts)) (patterns.rolls-Array (map first parts)) (array_binds parts)

pattern_claim : (p : Pattern) → OfForm p.form → OfPattern p
pattern_claim p claim k before after h =
    let walks = fold_out-Pattern (Span → PatternWalk) PatternWalk pattern_step (λ p. p.form p.span) p in
    claim p.span k before after (sym (ap (λ (w : PatternWalk). w k before) walks) ∙ h)

pub pattern_binds : (p : Pattern) → OfPattern p
pattern_binds =
    ind-Pattern OfForm OfPattern (λ x y is. subst (λ z. OfForm (roll-PatternForm z)) is (form_binds y))
    (λ x y is. pattern_claim (roll-Pattern x) (subst (λ (q : Pattern-F PatternForm Pattern). OfForm q.form) is y.form.1))

-- what a whole pattern binds
pub binds_once : (k : HlType) (p : Pattern) (names : Scope) → pattern_walk p k [] ≡ Ok names → BindsOnce k p names
binds_once k p names h =
    let b = pattern_binds p k [] names h in
    record { binds = subst (Binds (PatternAt k p.form)) (sym b.is) b.binds; once = b.once tt }
