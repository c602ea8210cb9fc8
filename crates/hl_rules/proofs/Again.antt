-- Witnesses that stand again: where a name was met, its first place, and what is broken at the next.
use Rattle.std.proofs.Common.{◌≡◌, ℕ, Bool, true, false, not, ◌&&◌, nat_eq, List, [], ◌∷◌, ◌++◌, bytes_eq, Option, Some, None, refl, sym, ap, ◌∙◌, IsTrue, eqb-true}
use Rattle.std.proofs.lemmas.Bool.{eqb-false}
use Rattle.std.proofs.lemmas.Slice.Eq.{bytes_eq-Decides}
use Rattle.hl_syntax.specs.declared.kinds.HlType.{HlType}
use Rattle.hl_syntax.specs.declared.kinds.TypedName.{TypedName}
use Rattle.hl_syntax.specs.declared.rules.Rule.TheVariants.{K17}
use Rattle.hl_syntax.specs.declared.token.Mark.{Mark}
use Rattle.hl_syntax.specs.declared.token.Span.{Span}
use Rattle.hl_syntax.specs.declared.tree.ExprForm.TheVariants as exprs
use Rattle.hl_syntax.specs.declared.tree.Item.{Item}
use Rattle.simplicityhl.specs.Grammar.{is_among}
use Rattle.simplicityhl.specs.Written.{breaks_rule}
use Rattle.hl_rules.specs.Breaks as breaks
use Rattle.hl_rules.specs.Exprs.{may_stand, stands_again}
use Rattle.hl_rules.specs.Occurs.{Place, Occurs}
use Rattle.hl_rules.specs.Places.{has_name, variable_type}
use Rattle.hl_rules.specs.Same.{same_type}
use Rattle.hl_rules.proofs.Here.{Setting, Here, Bad, AreMet, none_met, one_met, place}
use Rattle.hl_rules.proofs.Names.{has_among}

same_some : {A : Type 0} (x y : A) → Some x ≡ Some y → x ≡ y
same_some x y e = cc

-- where a name has its type among witnesses and one more: among them, or it is the one more
data Came (met : List TypedName) (w : TypedName) (name : List ℕ) (kind : HlType) : Type 0 where
  before : variable_type met name ≡ Some kind → Came met w name kind
  last : has_name met name ≡ false → bytes_eq name w.name ≡ true → w.kind ≡ kind → Came met w name kind

came : (met : List TypedName) (w : TypedName) (name : List ℕ) (kind : HlType) → variable_type (met ++ w ∷ []) name ≡ Some kind → Came met w name kind
came [] w name kind h = go (bytes_eq name w.name) refl
  where
    go : (b : Bool) → bytes_eq name w.name ≡ b → Came [] w name kind
    go true e = last refl e (same_some w.kind kind (rw e at h))
    go false e = let wrong = rw e at h in absurd (cc)
came (m ∷ met) w name kind h = go (bytes_eq name m.name) refl (λ r. came met w name kind r)
  where
    past : bytes_eq name m.name ≡ false → Came met w name kind → Came (m ∷ met) w name kind
    past e (before b) = before (rw e b)
    past e (last none this is) = last (rw e none) this is

    go : (b : Bool) → bytes_eq name m.name ≡ b → (variable_type (met ++ w ∷ []) name ≡ Some kind → Came met w name kind) → Came (m ∷ met) w name kind
    go true e rest = before (rw e (rw e at h))
    go false e rest = past e (rest (rw e at h))

-- the first place of a witness of a name, and the type that is expected there
record IsFirst (program : List Item) (name : List ℕ) (kind : HlType) : Type 0 where
  at : Place
  mark : Mark
  span : Span
  stands : Occurs program at (exprs.Witness mark) span
  named : mark.text ≡ name
  alone : is_among at.witnesses name ≡ false
  expected : at.expected ≡ kind

first_met : (program : List Item) (met : List TypedName) → AreMet program met → (name : List ℕ) (kind : HlType) → variable_type met name ≡ Some kind → IsFirst program name kind
first_met program _ none_met name kind h = absurd (cc)
first_met program _ (one_met met at mark span rest stands are) name kind h =
    go (came met (record { name = mark.text; kind = at.expected }) name kind h) (λ is. first_met program met rest name kind is)
  where
    go : Came met (record { name = mark.text; kind = at.expected }) name kind → (variable_type met name ≡ Some kind → IsFirst program name kind) → IsFirst program name kind
    go (before b) earlier = earlier b
    go (last none this is) earlier = record {
      at = at;
      mark = mark;
      span = span;
      stands = stands;
      named = sym ((bytes_eq-Decides name mark.text).0 this);
      alone = ap (λ ns. is_among ns name) are ∙ sym (has_among met name) ∙ none;
      expected = is;
    }

-- a name that has a type is among the names
pub has_type : (met : List TypedName) (name : List ℕ) (kind : HlType) → variable_type met name ≡ Some kind → has_name met name ≡ true
has_type [] name kind h = absurd (cc)
has_type (m ∷ met) name kind h = go (bytes_eq name m.name) refl (λ r. has_type met name kind r)
  where
    go : (b : Bool) → bytes_eq name m.name ≡ b → (variable_type met name ≡ Some kind → has_name met name ≡ true) → has_name (m ∷ met) name ≡ true
    go true e rest = rw e refl
    go false e rest = rw e (rest (rw e at h))

other_type : (b : Bool) → b ≡ false → IsTrue (not b)
other_type b e = rw e refl

module _ (s : Setting) (name : Mark) (span : Span) (h : Here s.program) (at : Occurs s.program (place s h) (exprs.Witness name) span) where
  among : (kind : HlType) → variable_type h.met name.text ≡ Some kind → IsTrue (is_among h.before name.text)
  among kind is = ap (λ ns. is_among ns name.text) (sym h.named.named) ∙ sym (has_among h.met name.text) ∙ has_type h.met name.text kind is

  typed_otherwise : (kind : HlType) → s.edition ≡ 2 → variable_type h.met name.text ≡ Some kind → same_type kind h.expected ≡ false → Bad s (breaks_rule K17 name.span)
  typed_otherwise kind second is other =
      let f = first_met s.program h.met h.named.stand name.text kind is in
      breaks.k17_type f.at (place s h) f.mark name f.span span second f.stands f.named f.alone at (among kind is)
      (other_type _ (ap (λ k. same_type k h.expected) f.expected ∙ other))

  -- where a witness may not stand, a rule is broken
  pub broken_again : may_stand s.edition h.met name.text h.expected ≡ false → Bad s (breaks_rule K17 name.span)
  broken_again e = go (variable_type h.met name.text) refl
    where
      by_edition : (kind : HlType) → variable_type h.met name.text ≡ Some kind → (nat_eq s.edition 2 && same_type kind h.expected) ≡ false → (b : Bool) → nat_eq s.edition 2 ≡ b → Bad s (breaks_rule K17 name.span)
      by_edition kind is wrong false first = breaks.k17 (place s h) name span (eqb-false s.edition 2 first) at (among kind is)
      by_edition kind is wrong true second = typed_otherwise kind (eqb-true s.edition 2 second) is (rw second at wrong)

      go : (known : Option HlType) → variable_type h.met name.text ≡ known → Bad s (breaks_rule K17 name.span)
      go None is = let wrong = ap (stands_again s.edition h.expected) (sym is) ∙ e in absurd (cc)
      go (Some kind) is = by_edition kind is (ap (stands_again s.edition h.expected) (sym is) ∙ e) (nat_eq s.edition 2) refl
