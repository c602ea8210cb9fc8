-- The terms of typed expressions and of programs with this compiler's parts.
use Rattle.std.proofs.Common.{◌≡◌, ℕ, Bool, true, false, List, [], ◌∷◌, ◌++◌, refl, sym, ap, ◌∙◌, subst, append_assoc, append-nil}
use Rattle.std.specs.Prelude.{if◌then◌else◌}
use Rattle.std.specs.List.{AllZip}
use Rattle.hl_data.specs.declared.typed.TypedExpr.{TypedExpr}
use Rattle.hl_data.specs.declared.typed.TypedFunction.{TypedFunction}
use Rattle.hl_syntax.specs.declared.kinds.HlType.{HlType}
use Rattle.hl_syntax.specs.declared.kinds.TypedName.{TypedName}
use Rattle.simplicity.specs.Arrows.{IsTypedFrom}
use Rattle.simplicityhl.specs.Kinds.{form}
use Rattle.hl_meaning.specs.Mean.{Function, functions_of}
use Rattle.hl_rules.specs.Places.{is_main}
use Rattle.hl_typing.specs.Programs.{FunctionsTyped, no_function, one_function}
use Rattle.hl_typing.specs.Typing.{Around, Typed, ExprAt}
use Rattle.hl_terms.specs.Programs.{functions_after, function_term, program_terms}
use Rattle.hl_terms.specs.Shapes.{Shape, kind_of, variables_of, witnesses_of}
use Rattle.hl_terms.specs.Translated.{FunctionTerm, translated}
use Rattle.hl_term_laws.specs.Laws.{AllRendered, BindsWitnesses, binds_all, binds_none}
use Rattle.hl_term_laws.proofs.Bodies.{Setting, renders}
use Rattle.hl_term_laws.proofs.Called.{called}
use Rattle.hl_term_laws.proofs.Programs.{functions_render, expressions_render}
use Rattle.hl_expansions.specs.Expansions.{expansions}
use Rattle.hl_expansions.specs.Laws.{HasTerm, BodiesAreTyped, PartsRendered, ProgramTermsAreTyped, ProgramsRender, IsAfter, FunctionsInOrder, TermsGrow}
use Rattle.hl_expansions.proofs.Jets.{jets_rendered}
use Rattle.hl_expansions.proofs.Loops.{loops_rendered}
use Rattle.hl_expansions.proofs.Recoded.{recodes}

pub parts_rendered : PartsRendered
parts_rendered = record { jets = jets_rendered; loops = loops_rendered; values = recodes }

-- Programs.

pub programs_render : ProgramsRender
programs_render edition program given w typed = functions_render expansions edition program.witnesses given w program.functions jets_rendered loops_rendered recodes typed.functions

have_terms : (witnesses : List TypedName) (fs : List TypedFunction) (gs : List Function) (ts : List FunctionTerm) → AllRendered witnesses [] [] fs gs ts → AllZip HasTerm fs ts
have_terms witnesses [] [] [] all = tt
have_terms witnesses (f ∷ fs) (g ∷ gs) (t ∷ ts) all =
    (record { name_is = all.0.made_name; params_are = all.0.made_params; typed = record { from = all.0.from; to = all.0.to; typed = all.0.typed } }, have_terms witnesses fs gs ts all.1)
have_terms witnesses [] [] (t ∷ ts) all = absurd all
have_terms witnesses [] (g ∷ gs) ts all = absurd all
have_terms witnesses (f ∷ fs) [] ts all = absurd all
have_terms witnesses (f ∷ fs) (g ∷ gs) [] all = absurd all

pub program_terms_are_typed : ProgramTermsAreTyped
program_terms_are_typed edition program typed =
    have_terms program.witnesses program.functions (functions_of [] program.functions) (program_terms expansions edition program.witnesses program.functions) (programs_render edition program [] [] typed)

-- Expressions.

module _ (edition : ℕ) (witnesses : List TypedName) (before : List TypedFunction) (scope : Shape) (k : HlType) (e : TypedExpr) where
  abbrev gs : List Function
  gs = functions_of [] before

  abbrev ts : List FunctionTerm
  ts = program_terms expansions edition witnesses before

  abbrev Made : Type 0
  Made = IsTypedFrom (translated expansions ts witnesses e scope) (kind_of scope) (form k)

  module _ (all : AllRendered witnesses [] [] before gs ts) where
    -- where no witness may be named
    free : witnesses_of scope ≡ [] → Typed (record { functions = before; witnesses = [] }) (ExprAt (variables_of scope) k e) → Made
    free bare typed =
        let around : Around = record { functions = before; witnesses = [] } in
        let s : Setting = record {
          expansions = expansions;
          around = around;
          functions = gs;
          terms = ts;
          witnesses = witnesses;
          bound = [];
          given = [];
          w = [];
          jets = jets_rendered;
          loops = loops_rendered;
          recodes = recodes;
          calls = called witnesses [] [] around gs ts all;
          leaf = λ word k shape none found. absurd (cc);
        } in
        let r = (renders s (ExprAt (variables_of scope) k e) typed).1 scope (record { names = refl; bare = bare }) in
        record { from = r.from; to = r.to; typed = r.typed }

    by_main : (main : Bool) → BindsWitnesses (if main then witnesses else []) scope →
        Typed (record { functions = before; witnesses = if main then witnesses else [] }) (ExprAt (variables_of scope) k e) → Made
    by_main true binds typed =
        let r = expressions_render expansions witnesses [] [] before gs ts scope k e jets_rendered loops_rendered recodes all binds typed in
        record { from = r.from; to = r.to; typed = r.typed }
    by_main false (binds_all bare) typed = free bare typed
    by_main false (binds_none bare) typed = free bare typed

pub bodies_are_typed : BodiesAreTyped
bodies_are_typed edition witnesses before name scope k e typed binds body =
    by_main edition witnesses before scope k e (functions_render expansions edition witnesses [] [] before jets_rendered loops_rendered recodes typed) (is_main name) binds body

-- Functions in their order.

-- a list with one more at its end, taken apart at some place
data Ends {A : Type 0} (b : List A) (g : A) (before : List A) (f : A) (after : List A) : Type 0 where
  at_end : b ≡ before → g ≡ f → Ends b g before f after
  within : (more : List A) → b ≡ before ++ f ∷ more → Ends b g before f after

head_same : {A : Type 0} (x y : A) (xs ys : List A) → x ∷ xs ≡ y ∷ ys → x ≡ y
head_same x y xs ys e = cc

tail_same : {A : Type 0} (x y : A) (xs ys : List A) → x ∷ xs ≡ y ∷ ys → xs ≡ ys
tail_same x y xs ys e = cc

none_left : {A : Type 0} (before : List A) (f : A) (after : List A) → [] ≡ before ++ f ∷ after → ⊥
none_left [] f after e = cc
none_left (x ∷ before) f after e = cc

ends_after : {A : Type 0} (x y : A) (b : List A) (g : A) (before : List A) (f : A) (after : List A) → x ≡ y → Ends b g before f after → Ends (x ∷ b) g (y ∷ before) f after
ends_after x y b g before f after e (at_end is same) = at_end (ap (λ z. z ∷ b) e ∙ ap (λ l. y ∷ l) is) same
ends_after x y b g before f after e (within more is) = within more (ap (λ z. z ∷ b) e ∙ ap (λ l. y ∷ l) is)

ends : {A : Type 0} (b : List A) (g : A) (before : List A) (f : A) (after : List A) → b ++ g ∷ [] ≡ before ++ f ∷ after → Ends b g before f after
ends [] g [] f after e = at_end refl (head_same g f [] after e)
ends (x ∷ b) g [] f after e = within b (ap (λ y. y ∷ b) (head_same x f (b ++ g ∷ []) after e))
ends [] g (y ∷ before) f after e = absurd (none_left before f after (tail_same g y [] (before ++ f ∷ after) e))
ends (x ∷ b) g (y ∷ before) f after e =
    ends_after x y b g before f after (head_same x y (b ++ g ∷ []) (before ++ f ∷ after) e) (ends b g before f after (tail_same x y (b ++ g ∷ []) (before ++ f ∷ after) e))

module _ (witnesses : List TypedName) where
  in_order : (fs : List TypedFunction) → FunctionsTyped witnesses fs → (before : List TypedFunction) (f : TypedFunction) (after : List TypedFunction) → fs ≡ before ++ f ∷ after → IsAfter witnesses before f
  in_order _ no_function before f after e = absurd (none_left before f after e)
  in_order _ (one_function b g h typed other main) before f after e = by_end (ends b g before f after e) (λ more is. in_order b h before f more is)
    where
      by_end : Ends b g before f after → ((more : List TypedFunction) → b ≡ before ++ f ∷ more → IsAfter witnesses before f) → IsAfter witnesses before f
      by_end (at_end is same) later = subst (λ l. IsAfter witnesses l f) is (subst (IsAfter witnesses b) same (record { before_typed = h; typed = typed }))
      by_end (within more is) later = later more is

pub functions_in_order : FunctionsInOrder
functions_in_order witnesses before f after typed = in_order witnesses (before ++ f ∷ after) typed before f after refl

module _ (edition : ℕ) (witnesses : List TypedName) where
  abbrev terms_after : List FunctionTerm → List TypedFunction → List FunctionTerm
  terms_after before fs = functions_after expansions edition witnesses before fs

  made_one : (before : List FunctionTerm) (fs : List TypedFunction) (f : TypedFunction) →
      terms_after before (fs ++ f ∷ []) ≡ terms_after before fs ++ function_term expansions edition witnesses (before ++ terms_after before fs) f ∷ []
  made_one before [] f = ap (λ b. function_term expansions edition witnesses b f ∷ []) (sym (append-nil before))
  made_one before (y ∷ fs) f =
      let first : FunctionTerm = function_term expansions edition witnesses before y in
      ap (λ ts. first ∷ ts) (made_one (before ++ first ∷ []) fs f
      ∙ ap (λ b. terms_after (before ++ first ∷ []) fs ++ function_term expansions edition witnesses b f ∷ []) (append_assoc before (first ∷ []) (terms_after (before ++ first ∷ []) fs)))

pub terms_grow : TermsGrow
unfolding program_terms
terms_grow edition witnesses before f = made_one edition witnesses [] before f
