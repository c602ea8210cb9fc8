-- What a part of the checker answers.
use Rattle.std.specs.Prelude.{◌≡◌, List, Result, Ok, Err}
use Rattle.hl_syntax.specs.declared.kinds.HlType.{HlType}
use Rattle.hl_syntax.specs.declared.kinds.TypedName.{TypedName}
use Rattle.hl_syntax.specs.declared.rules.Rule as rules
use Rattle.hl_syntax.specs.declared.token.Span.{Span}
use Rattle.hl_data.specs.declared.typed.TypedExpr.{TypedExpr}
use Rattle.hl_rules.specs.Exprs.{ExprWalk}
use Rattle.hl_rules.specs.Places.{Scope}
use Rattle.hl_rules.specs.Walks.{Walk}
use Rattle.hl_scope.specs.declared.asked.Asked.{Asked}
use Rattle.hl_scope.specs.declared.body.Body.{Body}
use Rattle.hl_scope.specs.declared.refusal.CheckRefusal.{CheckRefusal}
use Rattle.hl_scope.specs.declared.refusal.CheckRefusal.TheVariants.{Rule, Limit, OutOfMemory}
use Rattle.simplicityhl.specs.Written.{Broken, breaks_rule, breaks_limit}

-- what was answered, seen by a view, is what a walk finds, unless memory was short
abbrev pub ChecksAs : {X A : Type 0} → (X → A) → Result A Broken → Result X CheckRefusal → Type 0
ChecksAs view found (Ok x) = found ≡ Ok (view x)
ChecksAs view found (Err (Rule rule span)) = found ≡ Err (breaks_rule rule span)
ChecksAs view found (Err (Limit limit span)) = found ≡ Err (breaks_limit limit span)
ChecksAs view found (Err OutOfMemory) = Unit {0}

-- the same with no view
abbrev pub Checks : {A : Type 0} → Result A Broken → Result A CheckRefusal → Type 0
Checks found result = ChecksAs (λ x. x) found result

-- the same of a walk that meets witnesses: those that were met are these now
abbrev pub ChecksMet : {A : Type 0} → Result (A × List TypedName) Broken → Result A CheckRefusal → List TypedName → Type 0
ChecksMet found result met = ChecksAs (λ x. (x, met)) found result

-- the same of a walk in a body, from the variables in scope and the witnesses that were met before it
abbrev pub ChecksIn : {A : Type 0} → (Scope → Walk A) → Result A CheckRefusal → Body → Body → Type 0
ChecksIn walk result old new = ChecksMet (walk old.scope old.met) result new.met

-- of a walk that changes the scope as well: these variables are in scope now
abbrev pub ChecksScoped : {A : Type 0} → (Scope → Walk (A × Scope)) → Result A CheckRefusal → Body → Body → Type 0
ChecksScoped walk result old new = ChecksAs (λ x. ((x, new.scope), new.met)) (walk old.scope old.met) result

-- of a walk of an expression, for the type and the rule
abbrev pub ChecksExpr : ExprWalk → HlType → rules.Rule → Result TypedExpr CheckRefusal → Body → Body → Type 0
ChecksExpr walk expected rule result old new = ChecksIn (λ scope. walk scope expected rule) result old new

-- of a walk of a form or of a part of one, for what it is asked
abbrev pub ChecksAt : {A : Type 0} → (Span → Scope → HlType → rules.Rule → Walk A) → Asked → Result A CheckRefusal → Body → Body → Type 0
ChecksAt walk asked result old new = ChecksIn (λ scope. walk asked.span scope asked.expected.now asked.rule) result old new
