-- An expression holds a construct exactly where it is one or a part holds one, and so where one stands at some place of it.
use Rattle.std.proofs.Common.{◌≡◌, inl, inr, Bool, true, false, ◌||◌, List, [], ◌∷◌, ◌++◌, map, Option, Some, None, option_map, IsTrue, refl, sym, ap, ◌∙◌, subst}
use Rattle.hl_data.specs.declared.typed.TypedArm.{TypedArm, roll-TypedArm}
use Rattle.hl_data.specs.declared.typed.TypedExpr.{TypedExpr, roll-TypedExpr}
use Rattle.hl_data.specs.declared.typed.TypedForm.{TypedForm, roll-TypedForm}
use Rattle.hl_data.specs.declared.typed.TypedForm.TheFolds.{fold_out-TypedExpr, fold_out-TypedForm, fold_out-TypedStatement, fold_out-TypedArm, ind-TypedExpr, map-TypedForm, map-TypedStatement}
use Rattle.hl_data.specs.declared.typed.TypedForm.TheOpen.{TypedForm-F, TypedStatement-F, TypedExpr-F}
use Rattle.hl_data.specs.declared.typed.TypedForm.{out-TypedForm, out-roll-TypedForm}
use Rattle.hl_data.specs.declared.typed.TypedFunction.{TypedFunction}
use Rattle.hl_data.specs.declared.typed.TypedStatement.{TypedStatement}
use Rattle.hl_data.specs.declared.typed.TypedStatement.{out-TypedStatement, out-roll-TypedStatement}
use Rattle.hl_constructs.specs.Held.{any_of, last_of, form_step, statement_step, arm_step, expr_step, in_expr, in_form, in_statement, in_arm, in_program}
use Rattle.hl_constructs.specs.Places.{Layer, parts_of, last_part, value_of, value_in, IsAmong, StandsIn, itself, in_part, IsUnbuilt, Holds, SomeHolds, HeldStands}

-- what an expression holds by its form, and a form by its layer

abbrev layer_holds : Layer → Bool
layer_holds x = form_step (map-TypedForm TypedForm TypedStatement TypedArm TypedExpr Bool Bool Bool Bool in_form in_statement in_arm in_expr x)

expr_by_form : (e : TypedExpr) → in_expr e ≡ layer_holds (out-TypedForm e.form)
expr_by_form e = fold_out-TypedExpr Bool Bool Bool Bool form_step statement_step arm_step expr_step e ∙ fold_out-TypedForm Bool Bool Bool Bool form_step statement_step arm_step expr_step e.form

statement_by_value : (s : TypedStatement) → in_statement s ≡ in_expr (value_of s)
statement_by_value s = fold_out-TypedStatement Bool Bool Bool Bool form_step statement_step arm_step expr_step s ∙ by_layer (out-TypedStatement s)
  where
    by_layer : (x : TypedStatement-F TypedForm TypedStatement TypedArm TypedExpr) → statement_step (map-TypedStatement TypedForm TypedStatement TypedArm TypedExpr Bool Bool Bool Bool in_form in_statement in_arm in_expr x) ≡ in_expr (value_in x)
    by_layer (TypedStatement-F.Let p k e) = refl
    by_layer (TypedStatement-F.Plain e) = refl

arm_by_body : (a : TypedArm) → in_arm a ≡ in_expr a.body
arm_by_body a = fold_out-TypedArm Bool Bool Bool Bool form_step statement_step arm_step expr_step a

statements_by_values : (ss : List TypedStatement) → any_of (map in_statement ss) ≡ any_of (map in_expr (map value_of ss))
statements_by_values [] = refl
statements_by_values (s ∷ ss) = ap (λ b. b || any_of (map in_statement ss)) (statement_by_value s) ∙ ap (λ b. in_expr (value_of s) || b) (statements_by_values ss)

arms_by_bodies : (arms : List TypedArm) → any_of (map in_arm arms) ≡ any_of (map in_expr (map (λ (a : TypedArm). a.body) arms))
arms_by_bodies [] = refl
arms_by_bodies (a ∷ arms) = ap (λ b. b || any_of (map in_arm arms)) (arm_by_body a) ∙ ap (λ b. in_expr a.body || b) (arms_by_bodies arms)

-- or

or_none : (b : Bool) → b ≡ (b || false)
or_none true = refl
or_none false = refl

or_last : (es : List TypedExpr) (b : Bool) (last : List TypedExpr) → b ≡ any_of (map in_expr last) → (any_of (map in_expr es) || b) ≡ any_of (map in_expr (es ++ last))
or_last [] b last is = is
or_last (e ∷ es) b last is = or_assoc (in_expr e) (any_of (map in_expr es)) b ∙ ap (λ c. in_expr e || c) (or_last es b last is)
  where
    or_assoc : (a b c : Bool) → ((a || b) || c) ≡ (a || (b || c))
    or_assoc true b c = refl
    or_assoc false b c = refl

last_by_part : (last : Option TypedExpr) → last_of (option_map in_expr last) ≡ any_of (map in_expr (last_part last))
last_by_part None = refl
last_by_part (Some e) = or_none (in_expr e)

block_by_parts : (ss : List TypedStatement) (last : Option TypedExpr) → (any_of (map in_statement ss) || last_of (option_map in_expr last)) ≡ any_of (map in_expr (map value_of ss ++ last_part last))
block_by_parts ss last = ap (λ b. b || last_of (option_map in_expr last)) (statements_by_values ss) ∙ or_last (map value_of ss) (last_of (option_map in_expr last)) (last_part last) (last_by_part last)

-- a layer that holds one is one, or a part holds one

data Found (x : Layer) : Type 0 where
  is_one : IsUnbuilt x → Found x
  in_some : IsTrue (any_of (map in_expr (parts_of x))) → Found x

found : (x : Layer) → IsTrue (layer_holds x) → Found x
found (TypedForm-F.Jet name es) h = is_one tt
found (TypedForm-F.Fold name count items start) h = is_one tt
found (TypedForm-F.ArrayFold name count items start) h = is_one tt
found (TypedForm-F.ForWhile name start context) h = is_one tt
found (TypedForm-F.Block ss None) h = in_some (sym (block_by_parts ss None) ∙ h)
found (TypedForm-F.Block ss (Some e)) h = in_some (sym (block_by_parts ss (Some e)) ∙ h)
found (TypedForm-F.Match e arms) h = in_some (sym (ap (λ b. in_expr e || b) (arms_by_bodies arms)) ∙ h)
found (TypedForm-F.Tuple es) h = in_some h
found (TypedForm-F.Array es) h = in_some h
found (TypedForm-F.List es) h = in_some h
found (TypedForm-F.Call name es) h = in_some h
found (TypedForm-F.Assert e) h = in_some (sym (or_none (in_expr e)) ∙ h)
found (TypedForm-F.Dbg e) h = in_some (sym (or_none (in_expr e)) ∙ h)
found (TypedForm-F.Into from e) h = in_some (sym (or_none (in_expr e)) ∙ h)
found (TypedForm-F.Unwrap e) h = in_some (sym (or_none (in_expr e)) ∙ h)
found (TypedForm-F.UnwrapLeft other e) h = in_some (sym (or_none (in_expr e)) ∙ h)
found (TypedForm-F.UnwrapRight other e) h = in_some (sym (or_none (in_expr e)) ∙ h)
found (TypedForm-F.IsNone item e) h = in_some (sym (or_none (in_expr e)) ∙ h)
found (TypedForm-F.Left e) h = in_some (sym (or_none (in_expr e)) ∙ h)
found (TypedForm-F.Right e) h = in_some (sym (or_none (in_expr e)) ∙ h)
found (TypedForm-F.Some e) h = in_some (sym (or_none (in_expr e)) ∙ h)
found TypedForm-F.Panic h = absurd (cc)
found (TypedForm-F.Witness name) h = absurd (cc)
found (TypedForm-F.Value v) h = absurd (cc)
found TypedForm-F.Nothing h = absurd (cc)
found TypedForm-F.True h = absurd (cc)
found TypedForm-F.False h = absurd (cc)
found (TypedForm-F.Literal text) h = absurd (cc)
found (TypedForm-F.Name name) h = absurd (cc)

-- and the other way round

one_holds : (x : Layer) → IsUnbuilt x → IsTrue (layer_holds x)
one_holds (TypedForm-F.Jet name es) h = refl
one_holds (TypedForm-F.Fold name count items start) h = refl
one_holds (TypedForm-F.ArrayFold name count items start) h = refl
one_holds (TypedForm-F.ForWhile name start context) h = refl
one_holds _ h = absurd h

part_holds : (x : Layer) → IsTrue (any_of (map in_expr (parts_of x))) → IsTrue (layer_holds x)
part_holds (TypedForm-F.Jet name es) h = refl
part_holds (TypedForm-F.Fold name count items start) h = refl
part_holds (TypedForm-F.ArrayFold name count items start) h = refl
part_holds (TypedForm-F.ForWhile name start context) h = refl
part_holds (TypedForm-F.Block ss None) h = block_by_parts ss None ∙ h
part_holds (TypedForm-F.Block ss (Some e)) h = block_by_parts ss (Some e) ∙ h
part_holds (TypedForm-F.Match e arms) h = ap (λ b. in_expr e || b) (arms_by_bodies arms) ∙ h
part_holds (TypedForm-F.Tuple es) h = h
part_holds (TypedForm-F.Array es) h = h
part_holds (TypedForm-F.List es) h = h
part_holds (TypedForm-F.Call name es) h = h
part_holds (TypedForm-F.Assert e) h = or_none (in_expr e) ∙ h
part_holds (TypedForm-F.Dbg e) h = or_none (in_expr e) ∙ h
part_holds (TypedForm-F.Into from e) h = or_none (in_expr e) ∙ h
part_holds (TypedForm-F.Unwrap e) h = or_none (in_expr e) ∙ h
part_holds (TypedForm-F.UnwrapLeft other e) h = or_none (in_expr e) ∙ h
part_holds (TypedForm-F.UnwrapRight other e) h = or_none (in_expr e) ∙ h
part_holds (TypedForm-F.IsNone item e) h = or_none (in_expr e) ∙ h
part_holds (TypedForm-F.Left e) h = or_none (in_expr e) ∙ h
part_holds (TypedForm-F.Right e) h = or_none (in_expr e) ∙ h
part_holds (TypedForm-F.Some e) h = or_none (in_expr e) ∙ h
part_holds _ h = absurd (cc)

or_true : (a b : Bool) → IsTrue b → IsTrue (a || b)
or_true true b h = refl
or_true false b h = h

among_holds : (p : TypedExpr) (es : List TypedExpr) → IsAmong p es → IsTrue (in_expr p) → IsTrue (any_of (map in_expr es))
among_holds p [] is h = absurd is
among_holds p (e ∷ es) (inl same) h = ap (λ d. in_expr d || any_of (map in_expr es)) same ∙ ap (λ b. b || any_of (map in_expr es)) h
among_holds p (e ∷ es) (inr is) h = or_true (in_expr e) (any_of (map in_expr es)) (among_holds p es is h)

stands_holds : (q e : TypedExpr) → StandsIn q e → IsTrue (in_expr q) → IsTrue (in_expr e)
stands_holds q _ itself h = h
stands_holds q _ (in_part e p is at) h = expr_by_form e ∙ part_holds (out-TypedForm e.form) (among_holds p (parts_of (out-TypedForm e.form)) is (stands_holds q p at h))

-- By induction: where an expression holds one, it stands at some place.

abbrev Claim : TypedExpr → Type 0
Claim e = IsTrue (in_expr e) → Holds e

abbrev FormClaim : TypedForm → Type 0
FormClaim f = (p : TypedExpr) → IsAmong p (parts_of (out-TypedForm f)) → Claim p

abbrev StatementClaim : TypedStatement → Type 0
StatementClaim s = Claim (value_of s)

abbrev ArmClaim : TypedArm → Type 0
ArmClaim a = Claim a.body

record AnyOf (es : List TypedExpr) : Type 0 where
  one : TypedExpr
  among : IsAmong one es
  holds : IsTrue (in_expr one)

some_holds : (es : List TypedExpr) → IsTrue (any_of (map in_expr es)) → AnyOf es
some_holds [] h = absurd (cc)
some_holds (e ∷ es) h = by_first (in_expr e) refl h (some_holds es)
  where
    by_first : (b : Bool) → in_expr e ≡ b → IsTrue (b || any_of (map in_expr es)) → (IsTrue (any_of (map in_expr es)) → AnyOf es) → AnyOf (e ∷ es)
    by_first true is g rest = record { one = e; among = inl refl; holds = is }
    by_first false is g rest = let r = rest g in record { one = r.one; among = inr r.among; holds = r.holds }

expr_claim : (e : TypedExpr) → FormClaim e.form → Claim e
expr_claim e parts h = by_found (found (out-TypedForm e.form) (sym (expr_by_form e) ∙ h))
  where
    by_found : Found (out-TypedForm e.form) → Holds e
    by_found (is_one u) = record { place = e; stands = itself; unbuilt = u }
    by_found (in_some s) =
        let r = some_holds (parts_of (out-TypedForm e.form)) s in
        let inner = parts r.one r.among r.holds in
        record { place = inner.place; stands = in_part e r.one r.among inner.stands; unbuilt = inner.unbuilt }

-- parts that are claimed
abbrev ProvedExpr : Type 0
ProvedExpr = (e : TypedExpr) × Claim e

abbrev ProvedStatement : Type 0
ProvedStatement = (s : TypedStatement) × StatementClaim s

abbrev ProvedArm : Type 0
ProvedArm = (a : TypedArm) × ArmClaim a

abbrev ProvedForm : Type 0
ProvedForm = (f : TypedForm) × FormClaim f

abbrev All : List TypedExpr → Type 0
All es = (p : TypedExpr) → IsAmong p es → Claim p

none_all : All []
none_all p is = absurd is

more_all : (e : TypedExpr) (es : List TypedExpr) → Claim e → All es → All (e ∷ es)
more_all e es c all p (inl same) = subst Claim same c
more_all e es c all p (inr is) = all p is

exprs_all : (ps : List ProvedExpr) → All (map (λ (p : ProvedExpr). p.0) ps)
exprs_all [] = none_all
exprs_all (p ∷ ps) = more_all p.0 (map (λ (p : ProvedExpr). p.0) ps) p.1 (exprs_all ps)

arms_all : (ps : List ProvedArm) → All (map (λ (a : TypedArm). a.body) (map (λ (p : ProvedArm). p.0) ps))
arms_all [] = none_all
arms_all (p ∷ ps) = more_all p.0.body (map (λ (a : TypedArm). a.body) (map (λ (p : ProvedArm). p.0) ps)) p.1 (arms_all ps)

values_all : (ps : List ProvedStatement) (rest : List TypedExpr) → All rest → All (map value_of (map (λ (p : ProvedStatement). p.0) ps) ++ rest)
values_all [] rest all = all
values_all (p ∷ ps) rest all = more_all (value_of p.0) (map value_of (map (λ (p : ProvedStatement). p.0) ps) ++ rest) p.1 (values_all ps rest all)

one_all : (e : ProvedExpr) → All (e.0 ∷ [])
one_all e = more_all e.0 [] e.1 none_all

two_all : (e d : ProvedExpr) → All (e.0 ∷ d.0 ∷ [])
two_all e d = more_all e.0 (d.0 ∷ []) e.1 (one_all d)

abbrev Proved : Type 0
Proved = TypedForm-F ProvedForm ProvedStatement ProvedArm ProvedExpr

abbrev layer_of : Proved → Layer
layer_of y = map-TypedForm ProvedForm ProvedStatement ProvedArm ProvedExpr TypedForm TypedStatement TypedArm TypedExpr (λ p. p.0) (λ p. p.0) (λ p. p.0) (λ p. p.0) y

parts_all : (y : Proved) → All (parts_of (layer_of y))
parts_all (TypedForm-F.Block ps None) = values_all ps [] none_all
parts_all (TypedForm-F.Block ps (Some e)) = values_all ps (e.0 ∷ []) (one_all e)
parts_all (TypedForm-F.Match e arms) = more_all e.0 (map (λ (a : TypedArm). a.body) (map (λ (p : ProvedArm). p.0) arms)) e.1 (arms_all arms)
parts_all (TypedForm-F.Tuple es) = exprs_all es
parts_all (TypedForm-F.Array es) = exprs_all es
parts_all (TypedForm-F.List es) = exprs_all es
parts_all (TypedForm-F.Jet name es) = exprs_all es
parts_all (TypedForm-F.Call name es) = exprs_all es
parts_all (TypedForm-F.Fold name count items start) = two_all items start
parts_all (TypedForm-F.ArrayFold name count items start) = two_all items start
parts_all (TypedForm-F.ForWhile name start context) = two_all start context
parts_all (TypedForm-F.Assert e) = one_all e
parts_all (TypedForm-F.Dbg e) = one_all e
parts_all (TypedForm-F.Into from e) = one_all e
parts_all (TypedForm-F.Unwrap e) = one_all e
parts_all (TypedForm-F.UnwrapLeft other e) = one_all e
parts_all (TypedForm-F.UnwrapRight other e) = one_all e
parts_all (TypedForm-F.IsNone item e) = one_all e
parts_all (TypedForm-F.Left e) = one_all e
parts_all (TypedForm-F.Right e) = one_all e
parts_all (TypedForm-F.Some e) = one_all e
parts_all TypedForm-F.Panic = none_all
parts_all (TypedForm-F.Witness name) = none_all
parts_all (TypedForm-F.Value v) = none_all
parts_all TypedForm-F.Nothing = none_all
parts_all TypedForm-F.True = none_all
parts_all TypedForm-F.False = none_all
parts_all (TypedForm-F.Literal text) = none_all
parts_all (TypedForm-F.Name name) = none_all

form_claim : (x : Layer) (y : Proved) → layer_of y ≡ x → FormClaim (roll-TypedForm x)
form_claim x y is = subst (λ z. All (parts_of z)) (is ∙ sym (out-roll-TypedForm x)) (parts_all y)

abbrev StatementLayer : Type 0
StatementLayer = TypedStatement-F TypedForm TypedStatement TypedArm TypedExpr

value_claim : (y : TypedStatement-F ProvedForm ProvedStatement ProvedArm ProvedExpr) →
    Claim (value_in (map-TypedStatement ProvedForm ProvedStatement ProvedArm ProvedExpr TypedForm TypedStatement TypedArm TypedExpr (λ p. p.0) (λ p. p.0) (λ p. p.0) (λ p. p.0) y))
value_claim (TypedStatement-F.Let p k e) = e.1
value_claim (TypedStatement-F.Plain e) = e.1

held_stands_in : (e : TypedExpr) → Claim e
held_stands_in =
    ind-TypedExpr FormClaim StatementClaim ArmClaim Claim form_claim
    (λ x y is. subst (λ (z : StatementLayer). Claim (value_in z)) (is ∙ sym (out-roll-TypedStatement x)) (value_claim y))
    (λ x y is. subst (λ z. ArmClaim (roll-TypedArm z)) is y.body.1)
    (λ x y is. expr_claim (roll-TypedExpr x) (subst (λ (e : TypedExpr-F TypedForm TypedStatement TypedArm TypedExpr). FormClaim e.form) is y.form.1))

stands_held : (e : TypedExpr) → Holds e → IsTrue (in_expr e)
stands_held e h = stands_holds h.place e h.stands (expr_by_form h.place ∙ one_holds (out-TypedForm h.place.form) h.unbuilt)

program_found : (fs : List TypedFunction) → IsTrue (in_program fs) → SomeHolds fs
program_found [] h = absurd (cc)
program_found (f ∷ fs) h = by_first (in_expr f.body) refl h (program_found fs)
  where
    by_first : (b : Bool) → in_expr f.body ≡ b → IsTrue (b || in_program fs) → (IsTrue (in_program fs) → SomeHolds fs) → SomeHolds (f ∷ fs)
    by_first true is g rest = inl (held_stands_in f.body is)
    by_first false is g rest = inr (rest g)

program_finds : (fs : List TypedFunction) → SomeHolds fs → IsTrue (in_program fs)
program_finds [] h = absurd h
program_finds (f ∷ fs) (inl h) = ap (λ b. b || in_program fs) (stands_held f.body h)
program_finds (f ∷ fs) (inr h) = or_true (in_expr f.body) (in_program fs) (program_finds fs h)

pub held_stands : HeldStands
held_stands = record { found = held_stands_in; finds = stands_held; found_in_some = program_found; finds_in_some = program_finds }
