-- Parts of expressions one after the other.
use Rattle.std.proofs.Common.{◌≡◌, ℕ, ◌+◌, ◌<◌, ◌≤◌, List, [], ◌∷◌, ◌++◌, length, map, drop, get_or, refl, sym, ap, ◌∙◌, Result, Ok, Err, append_assoc, append-nil, Some}
use Rattle.std.specs.List.{slice_get}
use Rattle.hl_syntax.specs.declared.kinds.HlType.{HlType}
use Rattle.hl_syntax.specs.declared.kinds.TypedName.{TypedName}
use Rattle.hl_syntax.specs.declared.rules.Rule.TheVariants.{K6}
use Rattle.hl_syntax.specs.declared.tree.Expr.{Expr}
use Rattle.hl_syntax.specs.declared.tree.Statement.{Statement}
use Rattle.hl_data.specs.declared.typed.TypedExpr.{TypedExpr}
use Rattle.hl_data.specs.declared.typed.TypedStatement.{TypedStatement}
use Rattle.simplicityhl.specs.Written.{Broken, then_walk}
use Rattle.hl_rules.specs.Places.{Scope, Context}
use Rattle.hl_rules.specs.Exprs.{expr_walk, statement_walk, parts_walk, items_walk, statements_walk}
use Rattle.hl_check.specs.Scopes.{IsInner}
use Rattle.hl_types.proofs.Drops.{drop_item, drop_got, drop_past}

-- what was found, before what the rest gives
abbrev pub after : {A : Type 0} → List A → Result (List A × List TypedName) Broken → Result (List A × List TypedName) Broken
after found rest = then_walk rest (λ more. Ok (found ++ more.0, more.1))

abbrev pub after_statements : List TypedStatement → Result ((List TypedStatement × Scope) × List TypedName) Broken → Result ((List TypedStatement × Scope) × List TypedName) Broken
after_statements found rest = then_walk rest (λ more. Ok ((found ++ more.0.0, more.0.1), more.1))

after_cons : {A : Type 0} (found : List A) (x : A) (rest : Result (List A × List TypedName) Broken) → after found (then_walk rest (λ r. Ok (x ∷ r.0, r.1))) ≡ after (found ++ x ∷ []) rest
after_cons found x (Ok more) = ap (λ xs. Ok (xs, more.1)) (sym (append_assoc found (x ∷ []) more.0))
after_cons found x (Err broken) = refl

after_then : {A : Type 0} (found : List A) (first : Result (A × List TypedName) Broken) (next : List TypedName → Result (List A × List TypedName) Broken) →
    after found (then_walk first (λ x. then_walk (next x.1) (λ r. Ok (x.0 ∷ r.0, r.1)))) ≡ then_walk first (λ x. after (found ++ x.0 ∷ []) (next x.1))
after_then found (Ok x) next = after_cons found x.0 (next x.1)
after_then found (Err broken) next = refl

-- parts from a place on, after those that were found
abbrev pub parts_from : Context → List Expr → List HlType → ℕ → Scope → List TypedExpr → List TypedName → Result (List TypedExpr × List TypedName) Broken
parts_from c parts kinds i scope found met = after found (parts_walk (map (expr_walk c) (drop i parts)) (drop i kinds) scope met)

pub part_next : (c : Context) (parts : List Expr) (kinds : List HlType) (i : ℕ) (part : Expr) (kind : HlType) (scope : Scope) (found : List TypedExpr) (met : List TypedName) →
    i < length parts → part ≡ get_or parts i part → i < length kinds → kind ≡ get_or kinds i kind →
    parts_from c parts kinds i scope found met ≡ then_walk (expr_walk c part scope kind K6 met) (λ one. parts_from c parts kinds (i + 1) scope (found ++ one.0 ∷ []) one.1)
part_next c parts kinds i part kind scope found met less is within at =
    let e = drop_item parts i part less is in
    let k = drop_item kinds i kind within at in
    rw (e, k) (after_then found (expr_walk c part scope kind K6 met) (parts_walk (map (expr_walk c) (drop (i + 1) parts)) (drop (i + 1) kinds) scope))

pub no_part : (c : Context) (parts : List Expr) (kinds : List HlType) (i : ℕ) (scope : Scope) (found : List TypedExpr) (met : List TypedName) → length parts ≤ i →
    parts_from c parts kinds i scope found met ≡ Ok (found, met)
no_part c parts kinds i scope found met past = let e = drop_past i parts past in rw (e, append-nil) refl

-- the same at the types of parameters
abbrev pub arguments_from : Context → List Expr → List TypedName → ℕ → Scope → List TypedExpr → List TypedName → Result (List TypedExpr × List TypedName) Broken
arguments_from c parts params i scope found met = after found (parts_walk (map (expr_walk c) (drop i parts)) (map (λ p. p.kind) (drop i params)) scope met)

pub argument_next : (c : Context) (parts : List Expr) (params : List TypedName) (i : ℕ) (part : Expr) (param : TypedName) (scope : Scope) (found : List TypedExpr) (met : List TypedName) →
    i < length parts → part ≡ get_or parts i part → slice_get params i ≡ Some param →
    arguments_from c parts params i scope found met ≡ then_walk (expr_walk c part scope param.kind K6 met) (λ one. arguments_from c parts params (i + 1) scope (found ++ one.0 ∷ []) one.1)
argument_next c parts params i part param scope found met less is at =
    let e = drop_item parts i part less is in
    let k = drop_got params i param at in
    rw (e, k) (after_then found (expr_walk c part scope param.kind K6 met) (parts_walk (map (expr_walk c) (drop (i + 1) parts)) (map (λ p. p.kind) (drop (i + 1) params)) scope))

pub no_argument : (c : Context) (parts : List Expr) (params : List TypedName) (i : ℕ) (scope : Scope) (found : List TypedExpr) (met : List TypedName) → length parts ≤ i →
    arguments_from c parts params i scope found met ≡ Ok (found, met)
no_argument c parts params i scope found met past = let e = drop_past i parts past in rw (e, append-nil) refl

-- the same at one type
abbrev pub items_from : Context → List Expr → HlType → ℕ → Scope → List TypedExpr → List TypedName → Result (List TypedExpr × List TypedName) Broken
items_from c parts item i scope found met = after found (items_walk (map (expr_walk c) (drop i parts)) item scope met)

pub item_next : (c : Context) (parts : List Expr) (item : HlType) (i : ℕ) (part : Expr) (scope : Scope) (found : List TypedExpr) (met : List TypedName) →
    i < length parts → part ≡ get_or parts i part →
    items_from c parts item i scope found met ≡ then_walk (expr_walk c part scope item K6 met) (λ one. items_from c parts item (i + 1) scope (found ++ one.0 ∷ []) one.1)
item_next c parts item i part scope found met less is =
    let e = drop_item parts i part less is in
    rw e (after_then found (expr_walk c part scope item K6 met) (items_walk (map (expr_walk c) (drop (i + 1) parts)) item scope))

pub no_item : (c : Context) (parts : List Expr) (item : HlType) (i : ℕ) (scope : Scope) (found : List TypedExpr) (met : List TypedName) → length parts ≤ i →
    items_from c parts item i scope found met ≡ Ok (found, met)
no_item c parts item i scope found met past = let e = drop_past i parts past in rw (e, append-nil) refl

-- the same of statements, each of which gives the scope after it

abbrev Typed : Type 0
Typed = Result ((List TypedStatement × Scope) × List TypedName) Broken

statements_cons : (found : List TypedStatement) (x : TypedStatement) (rest : Typed) → after_statements found (then_walk rest (λ r. Ok ((x ∷ r.0.0, r.0.1), r.1))) ≡ after_statements (found ++ x ∷ []) rest
statements_cons found x (Ok more) = ap (λ xs. Ok ((xs, more.0.1), more.1)) (sym (append_assoc found (x ∷ []) more.0.0))
statements_cons found x (Err broken) = refl

statements_then : (found : List TypedStatement) (first : Result ((TypedStatement × Scope) × List TypedName) Broken) (next : Scope → List TypedName → Typed) →
    after_statements found (then_walk first (λ x. then_walk (next x.0.1 x.1) (λ r. Ok ((x.0.0 ∷ r.0.0, r.0.1), r.1)))) ≡ then_walk first (λ x. after_statements (found ++ x.0.0 ∷ []) (next x.0.1 x.1))
statements_then found (Ok x) next = statements_cons found x.0.0 (next x.0.1 x.1)
statements_then found (Err broken) next = refl

abbrev pub statements_from : Context → List Statement → ℕ → List TypedStatement → Scope → List TypedName → Typed
statements_from c statements i found scope met = after_statements found (statements_walk (map (statement_walk c) (drop i statements)) scope met)

pub statement_next : (c : Context) (statements : List Statement) (i : ℕ) (statement : Statement) (found : List TypedStatement) (scope : Scope) (met : List TypedName) →
    i < length statements → statement ≡ get_or statements i statement →
    statements_from c statements i found scope met ≡ then_walk (statement_walk c statement scope met) (λ one. statements_from c statements (i + 1) (found ++ one.0.0 ∷ []) one.0.1 one.1)
statement_next c statements i statement found scope met less is =
    let e = drop_item statements i statement less is in
    rw e (statements_then found (statement_walk c statement scope met) (λ next. statements_walk (map (statement_walk c) (drop (i + 1) statements)) next))

pub no_statement : (c : Context) (statements : List Statement) (i : ℕ) (found : List TypedStatement) (scope : Scope) (met : List TypedName) → length statements ≤ i →
    statements_from c statements i found scope met ≡ Ok ((found, scope), met)
no_statement c statements i found scope met past = let e = drop_past i statements past in rw (e, append-nil) refl

pub inner_same : (scope : Scope) → IsInner scope scope
inner_same scope = record { names = []; is = refl }

pub inner_more : (one two three : Scope) → IsInner one two → IsInner two three → IsInner one three
inner_more one two three a b = record { names = b.names ++ a.names; is = b.is ∙ ap (λ xs. b.names ++ xs) a.is ∙ sym (append_assoc b.names a.names one) }

pub inner_bound : (bound one two : Scope) → two ≡ bound ++ one → IsInner one two
inner_bound bound one two e = record { names = bound; is = e }

pub inner_equal : (one two : Scope) → two ≡ one → IsInner one two
inner_equal one two e = record { names = []; is = e }
