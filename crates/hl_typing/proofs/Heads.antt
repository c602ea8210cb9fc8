-- Where the walk of an alias or of a function's head answers, what its parts answered.
use Rattle.std.proofs.Common.{◌≡◌, ◌+◌, true, false, not, List, [], ◌∷◌, ◌++◌, length, map, Option, Ok, sym, ap, ◌∙◌, subst, append_assoc, append-nil, length-append, arith}
use Rattle.hl_data.specs.declared.typed.TypedFunction.{TypedFunction}
use Rattle.hl_syntax.specs.declared.kinds.HlType.{HlType}
use Rattle.hl_syntax.specs.declared.kinds.TypedName.{TypedName}
use Rattle.hl_syntax.specs.declared.rules.Rule.TheVariants.{K1, K5, K21, K24}
use Rattle.hl_syntax.specs.declared.token.Mark.{Mark}
use Rattle.hl_syntax.specs.declared.tree.Param.{Param}
use Rattle.hl_syntax.specs.declared.tree.TypeText.{TypeText}
use Rattle.simplicityhl.specs.Written.{walk}
use Rattle.hl_rules.specs.Before.{AreTyped, no_param, one_more}
use Rattle.hl_rules.specs.Declared.{Head, alias_walk, head_walk, params_walk, param_walk, result_walk, has_function, may_be}
use Rattle.hl_rules.specs.Names.{is_reserved, alias_words, function_words, variable_words}
use Rattle.hl_rules.specs.Places.{has_name}
use Rattle.hl_rules.specs.Steps.{needs}
use Rattle.hl_rules.specs.Witnesses.{Names}
use Rattle.hl_rules.proofs.Names.{names_of, named_more}
use Rattle.hl_typing.proofs.Once.{not_true}
use Rattle.hl_typing.proofs.Steps.{ran, ok_same, needs_ok}

abbrev pub param_names : List Param → Names
param_names params = map (λ p. p.name.text) params

pub record AliasRan (aliases : List TypedName) (name : Mark) (text : TypeText) (found : List TypedName) : Type 0 where
  pub unreserved : is_reserved alias_words name.text ≡ false
  pub fresh : has_name aliases name.text ≡ false
  pub kind : HlType
  pub written : walk aliases text ≡ Ok kind
  pub is : aliases ++ record { name = name.text; kind = kind } ∷ [] ≡ found

pub alias_ran : (aliases : List TypedName) (name : Mark) (text : TypeText) (found : List TypedName) → alias_walk aliases name text ≡ Ok found → AliasRan aliases name text found
alias_ran aliases name text found h =
    let a = ran (needs (not (is_reserved alias_words name.text)) K24 name.span) _ found h in
    let b = ran (needs (not (has_name aliases name.text)) K1 name.span) _ found a.is in
    let c = ran (walk aliases text) _ found b.is in
    record {
      unreserved = not_true (is_reserved alias_words name.text) (needs_ok (not (is_reserved alias_words name.text)) K24 name.span a.from a.was);
      fresh = not_true (has_name aliases name.text) (needs_ok (not (has_name aliases name.text)) K1 name.span b.from b.was);
      kind = c.from;
      written = c.was;
      is = ok_same c.is;
    }

pub record ParamRan (aliases : List TypedName) (param : Param) (met found : List TypedName) : Type 0 where
  pub unreserved : is_reserved variable_words param.name.text ≡ false
  pub fresh : has_name met param.name.text ≡ false
  pub kind : HlType
  pub written : walk aliases param.kind ≡ Ok kind
  pub is : met ++ record { name = param.name.text; kind = kind } ∷ [] ≡ found

pub param_ran : (aliases : List TypedName) (param : Param) (met found : List TypedName) → param_walk aliases param met ≡ Ok found → ParamRan aliases param met found
param_ran aliases param met found h =
    let a = ran (needs (not (is_reserved variable_words param.name.text)) K24 param.name.span) _ found h in
    let b = ran (needs (not (has_name met param.name.text)) K5 param.name.span) _ found a.is in
    let c = ran (walk aliases param.kind) _ found b.is in
    record {
      unreserved = not_true (is_reserved variable_words param.name.text) (needs_ok (not (is_reserved variable_words param.name.text)) K24 param.name.span a.from a.was);
      fresh = not_true (has_name met param.name.text) (needs_ok (not (has_name met param.name.text)) K5 param.name.span b.from b.was);
      kind = c.from;
      written = c.was;
      is = ok_same c.is;
    }

-- a parameter after those before it
pub params_at : (aliases : List TypedName) (before : List Param) (param : Param) (after : List Param) (met r : List TypedName) (names : Names) → names_of met ≡ names → params_walk aliases (before ++ param ∷ after) met ≡ Ok r →
    (here : List TypedName) × (found : List TypedName) × (names_of here ≡ names ++ param_names before) × ParamRan aliases param here found
params_at aliases [] param after met r names named h =
    let a = ran (param_walk aliases param met) (params_walk aliases after) r h in (met, a.from, named ∙ sym (append-nil names), param_ran aliases param met a.from a.was)
params_at aliases (p ∷ before) param after met r names named h =
    let a = ran (param_walk aliases p met) (params_walk aliases (before ++ param ∷ after)) r h in
    let q = param_ran aliases p met a.from a.was in
    let named' : names_of a.from ≡ names ++ p.name.text ∷ [] = ap names_of (sym q.is) ∙ named_more met (record { name = p.name.text; kind = q.kind }) names named in
    let rest = params_at aliases before param after a.from r (names ++ p.name.text ∷ []) named' a.is in
    (rest.0, rest.1, rest.2 ∙ append_assoc names (p.name.text ∷ []) (param_names before), rest.3)

-- parameters with the types that are written are those that the walk finds
pub typed_params : (aliases : List TypedName) (params : List Param) (typed : List TypedName) → AreTyped aliases params typed → (rest : List Param) (r : List TypedName) → params_walk aliases (params ++ rest) [] ≡ Ok r → params_walk aliases rest typed ≡ Ok r
typed_params aliases _ _ no_param rest r h = h
typed_params aliases _ _ (one_more params typed param kind are written) rest r h =
    let h' = ap (λ (ps : List Param). params_walk aliases ps []) (sym (append_assoc params (param ∷ []) rest)) ∙ h in
    let w = typed_params aliases params typed are (param ∷ rest) r h' in
    let a = ran (param_walk aliases param typed) (params_walk aliases rest) r w in
    let q = param_ran aliases param typed a.from a.was in
    let kind_is : q.kind ≡ kind = ok_same (sym q.written ∙ written) in
    let found_is : a.from ≡ typed ++ record { name = param.name.text; kind = kind } ∷ [] = sym q.is ∙ ap (λ (k : HlType). typed ++ record { name = param.name.text; kind = k } ∷ []) kind_is in
    ap (params_walk aliases rest) (sym found_is) ∙ a.is

pub all_typed : (aliases : List TypedName) (params : List Param) (typed r : List TypedName) → AreTyped aliases params typed → params_walk aliases params [] ≡ Ok r → r ≡ typed
all_typed aliases params typed r are h = sym (ok_same (typed_params aliases params typed are [] r (ap (λ (ps : List Param). params_walk aliases ps []) (append-nil params) ∙ h)))

pub params_long : (aliases : List TypedName) (params : List Param) (met r : List TypedName) → params_walk aliases params met ≡ Ok r → length r ≡ length met + length params
params_long aliases [] met r h = let same = ap length (ok_same h) in omega (arith, same)
params_long aliases (p ∷ params) met r h =
    let a = ran (param_walk aliases p met) (params_walk aliases params) r h in
    let q = param_ran aliases p met a.from a.was in
    let rest = params_long aliases params a.from r a.is in
    let grown : length (met ++ record { name = p.name.text; kind = q.kind } ∷ []) ≡ length a.from = ap length q.is in
    omega (arith, rest, grown, length-append met (record { name = p.name.text; kind = q.kind } ∷ []))

pub record HeadRan (aliases : List TypedName) (functions : List TypedFunction) (name : Mark) (params : List Param) (text : Option TypeText) (head : Head) : Type 0 where
  pub unreserved : is_reserved function_words name.text ≡ false
  pub fresh : has_function functions name.text ≡ false
  pub params_are : params_walk aliases params [] ≡ Ok head.params
  pub result_is : result_walk aliases text ≡ Ok head.result
  pub may : may_be name.text head.params head.result ≡ true

pub head_ran : (aliases : List TypedName) (functions : List TypedFunction) (name : Mark) (params : List Param) (text : Option TypeText) (head : Head) → head_walk aliases functions name params text ≡ Ok head → HeadRan aliases functions name params text head
head_ran aliases functions name params text head h =
    let a = ran (needs (not (is_reserved function_words name.text)) K24 name.span) _ head h in
    let b = ran (needs (not (has_function functions name.text)) K1 name.span) _ head a.is in
    let c = ran (params_walk aliases params []) _ head b.is in
    let d = ran (result_walk aliases text) _ head c.is in
    let e = ran (needs (may_be name.text c.from d.from) K21 name.span) _ head d.is in
    subst (HeadRan aliases functions name params text) (ok_same e.is) (record {
      unreserved = not_true (is_reserved function_words name.text) (needs_ok (not (is_reserved function_words name.text)) K24 name.span a.from a.was);
      fresh = not_true (has_function functions name.text) (needs_ok (not (has_function functions name.text)) K1 name.span b.from b.was);
      params_are = c.was;
      result_is = d.was;
      may = needs_ok (may_be name.text c.from d.from) K21 name.span e.from e.was;
    })

-- what the walk of parameters finds are the types that are written
params_typed : (aliases : List TypedName) (before params : List Param) (met r : List TypedName) → AreTyped aliases before met → params_walk aliases params met ≡ Ok r → AreTyped aliases (before ++ params) r
params_typed aliases before [] met r are h = subst (λ (ps : List Param). AreTyped aliases ps r) (sym (append-nil before)) (subst (AreTyped aliases before) (ok_same h) are)
params_typed aliases before (p ∷ params) met r are h =
    let a = ran (param_walk aliases p met) (params_walk aliases params) r h in
    let q = param_ran aliases p met a.from a.was in
    let next : AreTyped aliases (before ++ p ∷ []) a.from = subst (AreTyped aliases (before ++ p ∷ [])) q.is (one_more before met p q.kind are q.written) in
    subst (λ (ps : List Param). AreTyped aliases ps r) (append_assoc before (p ∷ []) params) (params_typed aliases (before ++ p ∷ []) params a.from r next a.is)

pub typed_by_walk : (aliases : List TypedName) (params : List Param) (r : List TypedName) → params_walk aliases params [] ≡ Ok r → AreTyped aliases params r
typed_by_walk aliases params r h = params_typed aliases [] params [] r no_param h
