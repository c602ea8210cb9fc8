-- Where the walk of a form answers, the form breaks no rule of its own.
use Rattle.std.proofs.Common.{◌≡◌, ◌≢◌, ◌<◌, ◌≤◌, ◌^◌, ℕ, Bool, true, false, not, nat_lt, nat_eq, eqb-true, ltb-true, List, [], ◌∷◌, ◌++◌, length, map, Option, Some, None, Result, Ok, Err, refl, sym, ap, ◌∙◌, subst, IsTrue, arith}
use Rattle.std.specs.Prelude.{if◌then◌else◌}
use Rattle.std.proofs.lemmas.List.{length-map}
use Rattle.hl_data.specs.declared.typed.TypedForm.{TypedForm}
use Rattle.hl_data.specs.declared.typed.TypedForm.TheVariants as typed
use Rattle.hl_data.specs.declared.typed.TypedFunction.{TypedFunction}
use Rattle.hl_data.specs.declared.value.Entry.{Entry}
use Rattle.hl_syntax.specs.declared.kinds.HlType.{HlType}
use Rattle.hl_syntax.specs.declared.kinds.HlType.TheVariants as kind
use Rattle.hl_syntax.specs.declared.kinds.TypedName.{TypedName}
use Rattle.hl_syntax.specs.declared.rules.Limit.TheVariants.{L4}
use Rattle.hl_syntax.specs.declared.rules.Rule.TheVariants.{K3, K4, K7, K8, K9, K11, K12, K14, K15, K16, K17, K18, K19, K22}
use Rattle.hl_syntax.specs.declared.token.Mark.{Mark}
use Rattle.hl_syntax.specs.declared.token.Span.{Span}
use Rattle.hl_syntax.specs.declared.tree.Arm.{Arm}
use Rattle.hl_syntax.specs.declared.tree.Expr.{Expr}
use Rattle.hl_syntax.specs.declared.tree.ExprForm.{ExprForm}
use Rattle.hl_syntax.specs.declared.tree.ExprForm.TheOpen.{ExprForm-F}
use Rattle.hl_syntax.specs.declared.tree.ExprForm.TheVariants as exprs
use Rattle.hl_syntax.specs.declared.tree.TypeText.{TypeText}
use Rattle.jets.specs.Jet.{Row}
use Rattle.simplicityhl.specs.Grammar.{is_among}
use Rattle.simplicityhl.specs.Kinds as kinds
use Rattle.simplicityhl.specs.Kinds.{is_bound, is_count}
use Rattle.simplicityhl.specs.Tokens.{decimal_value}
use Rattle.simplicityhl.specs.Written.{Broken, breaks_limit, walk, counted, then_walk}
use Rattle.hl_meaning.specs.Literals.{literal_value}
use Rattle.hl_rules.specs.Before.{Signature, signature_named}
use Rattle.hl_rules.specs.Breaks.{Calls, by_call, by_fold, by_array_fold, by_for_while, HasType, no_last, asserted, truth, falsehood, tested, variable, from_jet, from_function, Misfits, other_type, no_number, no_tuple, no_array, no_list, no_option_some, no_option_none, no_either_left, no_either_right, Counts, fold_counts, array_fold_counts, IsShapeless, no_fold, no_array_fold, no_while, are_arms}
use Rattle.hl_rules.specs.Exprs.{may_stand, stands_again, expr_walk, statement_walk, statements_walk, last_walk, param_types, jet_named, jet_arguments, jet_result, fold_shape, while_shape}
use Rattle.hl_rules.specs.Occurs.{types_of}
use Rattle.hl_rules.specs.Places.{variable_type, function_named, entry_named, has_name}
use Rattle.hl_rules.specs.Same.{same_type, same_kind, unit_type, width_of, parts_of, array_of, list_of, option_of, either_of}
use Rattle.hl_rules.specs.Walks.{wants}
use Rattle.hl_rules.proofs.Here.{Setting, Here, context, place, rule_of, signature_of, signature_found}
use Rattle.hl_rules.proofs.Names.{has_among}
use Rattle.hl_typing.proofs.Every.{Every, every_rest}
use Rattle.hl_typing.proofs.Listed.{no_type}
use Rattle.hl_typing.proofs.Once.{not_true}
use Rattle.hl_typing.proofs.Reached.{opened, known}
use Rattle.hl_typing.proofs.Same.{both_true, kinds_equal}
use Rattle.hl_typing.proofs.Steps.{ran, ok_same}
use Rattle.hl_typing.proofs.There.{wants_there, wants_is, needs_there, step_there, mapped_none, none_some, true_false}
use Rattle.hl_typing.proofs.Within.{Answers, two_arms, match_ran}

count_by : (b : Bool) (n m : ℕ) (broken : Broken) → (if b then Ok n else Err broken) ≡ Ok m → b ≡ true
count_by true n m broken e = refl
count_by false n m broken e = absurd (cc)

-- a count that is walked is small
pub count_small : (mark : Mark) (n : ℕ) → counted mark ≡ Ok n → 65536 < decimal_value mark.text → ⊥
count_small mark n e large =
    let small = ltb-true _ _ (count_by (is_count (decimal_value mark.text)) (decimal_value mark.text) n (breaks_limit L4 mark.span) e) in omega (arith, small, large)

count_value : (b : Bool) (n m : ℕ) (broken : Broken) → (if b then Ok n else Err broken) ≡ Ok m → n ≡ m
count_value true n m broken e = cc
count_value false n m broken e = absurd (cc)

pub count_is : (mark : Mark) (n : ℕ) → counted mark ≡ Ok n → decimal_value mark.text ≡ n
count_is mark n e = count_value (is_count (decimal_value mark.text)) (decimal_value mark.text) n (breaks_limit L4 mark.span) e

pub not_both : (b : Bool) → b ≡ true → IsTrue (not b) → ⊥
not_both b h k = true_false b h (not_true b k)

module _ (s : Setting) (h : Here s.program) (span : Span) (r : TypedForm × List TypedName) where
  abbrev Answer : ExprForm → Type 0
  Answer form = Answers s form span h r

  -- functions that are called are there

  record CallRan (form : ExprForm) (name : Mark) (f : TypedFunction) : Type 0 where
    there : function_named s.functions name.text ≡ Some f
    same : same_type f.result h.expected ≡ true

  called : (form : ExprForm) (name : Mark) → Calls form name → Answer form → (f : TypedFunction) × CallRan form name f
  called _ _ (by_call name arguments) w =
      let a = wants_there (function_named s.functions name.text) K3 name.span h.met _ r (opened s (ExprForm-F.Call name arguments) (exprs.Call name arguments) (exprs.rolls-Call name arguments) span h r w) in
      let b = needs_there (nat_eq (length (map (expr_walk (context s)) arguments)) (length (a.0).params)) K11 span h.met _ r a.2 in
      let c = needs_there (same_type (a.0).result h.expected) (rule_of h.alone) span h.met _ r b.1 in
      (a.0, record { there = a.1; same = c.0 })
  called _ _ (by_fold name count items total) w =
      let a = wants_there (function_named s.functions name.text) K3 name.span h.met _ r (opened s (ExprForm-F.Fold name count items total) (exprs.Fold name count items total) (exprs.rolls-Fold name count items total) span h r w) in
      let b = step_there (counted count) h.met _ r a.2 in
      let c = needs_there (is_bound b.0) K15 count.span h.met _ r b.2 in
      let d = wants_there (fold_shape (param_types a.0) (a.0).result) K14 name.span h.met _ r c.1 in
      let e = needs_there (same_type (a.0).result h.expected) (rule_of h.alone) span h.met _ r d.2 in
      (a.0, record { there = a.1; same = e.0 })
  called _ _ (by_array_fold name count items total) w =
      let a = wants_there (function_named s.functions name.text) K3 name.span h.met _ r (opened s (ExprForm-F.ArrayFold name count items total) (exprs.ArrayFold name count items total) (exprs.rolls-ArrayFold name count items total) span h r w) in
      let b = step_there (counted count) h.met _ r a.2 in
      let d = wants_there (fold_shape (param_types a.0) (a.0).result) K14 name.span h.met _ r b.2 in
      let e = needs_there (same_type (a.0).result h.expected) (rule_of h.alone) span h.met _ r d.2 in
      (a.0, record { there = a.1; same = e.0 })
  called _ _ (by_for_while name total given) w =
      let a = wants_there (function_named s.functions name.text) K3 name.span h.met _ r (opened s (ExprForm-F.ForWhile name total given) (exprs.ForWhile name total given) (exprs.rolls-ForWhile name total given) span h r w) in
      let d = wants_there (while_shape (param_types a.0) (a.0).result) K14 name.span h.met _ r a.2 in
      let e = needs_there (same_type (a.0).result h.expected) (rule_of h.alone) span h.met _ r d.2 in
      (a.0, record { there = a.1; same = e.0 })

  abbrev signatures : List Signature
  signatures = map signature_of s.functions

  pub no_k3 : (form : ExprForm) (name : Mark) → Calls form name → Answer form → signature_named signatures name.text ≡ None → ⊥
  no_k3 form name calls w none =
      let c = called form name calls w in none_some (function_named s.functions name.text) c.0 (mapped_none signature_of (function_named s.functions name.text) (sym (signature_found s.functions name.text) ∙ none)) c.1.there

  pub no_k4 : (word : List ℕ) → Answer (exprs.Name word) → variable_type h.scope word ≡ None → ⊥
  no_k4 word w none =
      let a = wants_there (variable_type h.scope word) K4 span h.met _ r (opened s (ExprForm-F.Name word) (exprs.Name word) (exprs.rolls-Name word) span h r w) in none_some (variable_type h.scope word) a.0 none a.1

  -- a form that has a type has the type that is expected

  function_same : (form : ExprForm) (name : Mark) (f : Signature) → Calls form name → signature_named signatures name.text ≡ Some f → Answer form → same_type f.result h.expected ≡ true
  function_same form name f calls is w =
      let c = called form name calls w in
      let g = known s name.text f is in
      let same : ◌≡◌ {A = Option TypedFunction} (Some c.0) (Some g.0) = sym c.1.there ∙ g.1 in
      let one : c.0 ≡ g.0 = cc in
      ap (λ (k : HlType). same_type k h.expected) (sym (ap (λ (x : TypedFunction). x.result) one ∙ ap (λ (x : Signature). x.result) g.2)) ∙ c.1.same

  type_same : (form : ExprForm) (k : HlType) → HasType (place s h) form k → Answer form → same_type k h.expected ≡ true
  type_same _ _ (no_last before) w =
      let a = ran (statements_walk (map (statement_walk (context s)) before) h.scope h.met) _ r (opened s (ExprForm-F.Block before None) (exprs.Block before None) (exprs.rolls-Block before None) span h r w) in
      let b = ran (last_walk None span a.from.0.1 h.expected (rule_of h.alone) a.from.1) _ r a.is in
      (needs_there (same_type unit_type h.expected) (rule_of h.alone) span a.from.1 _ b.from b.was).0
  type_same _ _ (asserted e) w = (needs_there (same_type unit_type h.expected) (rule_of h.alone) span h.met _ r (opened s (ExprForm-F.Assert e) (exprs.Assert e) (exprs.rolls-Assert e) span h r w)).0
  type_same _ _ truth w = (needs_there (same_type kind.Bool h.expected) (rule_of h.alone) span h.met _ r (opened s ExprForm-F.True exprs.True exprs.rolls-True span h r w)).0
  type_same _ _ falsehood w = (needs_there (same_type kind.Bool h.expected) (rule_of h.alone) span h.met _ r (opened s ExprForm-F.False exprs.False exprs.rolls-False span h r w)).0
  type_same _ _ (tested text e item is) w =
      let a = step_there (walk s.aliases text) h.met _ r (opened s (ExprForm-F.IsNone text e) (exprs.IsNone text e) (exprs.rolls-IsNone text e) span h r w) in
      (needs_there (same_type kind.Bool h.expected) (rule_of h.alone) span h.met _ r a.2).0
  type_same _ _ (variable word k is) w =
      let a = wants_is (variable_type h.scope word) k K4 span h.met _ r is (opened s (ExprForm-F.Name word) (exprs.Name word) (exprs.rolls-Name word) span h r w) in
      (needs_there (same_type k h.expected) (rule_of h.alone) span h.met _ r a).0
  type_same _ _ (from_jet name arguments row is) w =
      let a = wants_is (jet_named name.text) row K22 name.span h.met _ r is (opened s (ExprForm-F.Jet name arguments) (exprs.Jet name arguments) (exprs.rolls-Jet name arguments) span h r w) in
      let b = needs_there (nat_eq (length (map (expr_walk (context s)) arguments)) (length (jet_arguments row))) K11 span h.met _ r a in
      (needs_there (same_type (jet_result row) h.expected) (rule_of h.alone) span h.met _ r b.1).0
  type_same _ _ (from_function form name f calls is) w = function_same form name f calls is w

  pub no_misfit : (form : ExprForm) → Misfits (place s h) form → Answer form → ⊥
  no_misfit _ (other_type form k has other) w = not_both (same_type k h.expected) (type_same form k has w) other
  no_misfit _ (no_number word none) w =
      let a = wants_there (width_of h.expected) (rule_of h.alone) span h.met _ r (opened s (ExprForm-F.Literal word) (exprs.Literal word) (exprs.rolls-Literal word) span h r w) in none_some (width_of h.expected) a.0 none a.1
  no_misfit _ (no_tuple parts none) w =
      let a = wants_there (parts_of h.expected) (rule_of h.alone) span h.met _ r (opened s (ExprForm-F.Tuple parts) (exprs.Tuple parts) (exprs.rolls-Tuple parts) span h r w) in none_some (parts_of h.expected) a.0 none a.1
  no_misfit _ (no_array parts none) w =
      let a = wants_there (array_of h.expected) (rule_of h.alone) span h.met _ r (opened s (ExprForm-F.Array parts) (exprs.Array parts) (exprs.rolls-Array parts) span h r w) in none_some (array_of h.expected) a.0 none a.1
  no_misfit _ (no_list parts none) w =
      let a = wants_there (list_of h.expected) (rule_of h.alone) span h.met _ r (opened s (ExprForm-F.List parts) (exprs.List parts) (exprs.rolls-List parts) span h r w) in none_some (list_of h.expected) a.0 none a.1
  no_misfit _ (no_option_some e none) w =
      let a = wants_there (option_of h.expected) (rule_of h.alone) span h.met _ r (opened s (ExprForm-F.Some e) (exprs.Some e) (exprs.rolls-Some e) span h r w) in none_some (option_of h.expected) a.0 none a.1
  no_misfit _ (no_option_none none) w = nothing_there (option_of h.expected) none (opened s ExprForm-F.Nothing exprs.Nothing exprs.rolls-Nothing span h r w)
    where
      nothing_there : (o : Option HlType) → o ≡ None → then_walk (wants o (rule_of h.alone) span h.met) (λ found. Ok (typed.Nothing, found.1)) ≡ Ok r → ⊥
      nothing_there (Some k) is e = absurd (cc)
      nothing_there None is e = absurd (cc)
  no_misfit _ (no_either_left e none) w =
      let a = wants_there (either_of h.expected) (rule_of h.alone) span h.met _ r (opened s (ExprForm-F.Left e) (exprs.Left e) (exprs.rolls-Left e) span h r w) in none_some (either_of h.expected) a.0 none a.1
  no_misfit _ (no_either_right e none) w =
      let a = wants_there (either_of h.expected) (rule_of h.alone) span h.met _ r (opened s (ExprForm-F.Right e) (exprs.Right e) (exprs.rolls-Right e) span h r w) in none_some (either_of h.expected) a.0 none a.1

  -- counts of parts

  many : (es : List Expr) (n : ℕ) → nat_eq (length (map (expr_walk (context s)) es)) n ≡ true → length es ≡ n
  many es n e = sym (length-map es (expr_walk (context s))) ∙ eqb-true _ _ e

  pub no_k7 : (word : List ℕ) (width : ℕ) → Answer (exprs.Literal word) → width_of h.expected ≡ Some width → 2 ^ width ≤ literal_value word → ⊥
  no_k7 word width w is large =
      let a = wants_is (width_of h.expected) width (rule_of h.alone) span h.met _ r is (opened s (ExprForm-F.Literal word) (exprs.Literal word) (exprs.rolls-Literal word) span h r w) in
      let b = needs_there (nat_lt (literal_value word) (2 ^ width)) K7 span h.met _ r a in
      let less = ltb-true (literal_value word) (2 ^ width) b.0 in omega (arith, less, large)

  pub no_k8_tuple : (parts : List Expr) (ks : List HlType) → Answer (exprs.Tuple parts) → parts_of h.expected ≡ Some ks → length parts ≢ length ks → ⊥
  no_k8_tuple parts ks w is other =
      let a = wants_is (parts_of h.expected) ks (rule_of h.alone) span h.met _ r is (opened s (ExprForm-F.Tuple parts) (exprs.Tuple parts) (exprs.rolls-Tuple parts) span h r w) in
      let b = needs_there (nat_eq (length (map (expr_walk (context s)) parts)) (length ks)) K8 span h.met _ r a in other (many parts (length ks) b.0)

  pub no_k8_array : (parts : List Expr) (item : HlType) (count : ℕ) → Answer (exprs.Array parts) → array_of h.expected ≡ Some (item, count) → length parts ≢ count → ⊥
  no_k8_array parts item count w is other =
      let a = wants_is (array_of h.expected) (item, count) (rule_of h.alone) span h.met _ r is (opened s (ExprForm-F.Array parts) (exprs.Array parts) (exprs.rolls-Array parts) span h r w) in
      let b = needs_there (nat_eq (length (map (expr_walk (context s)) parts)) count) K8 span h.met _ r a in other (many parts count b.0)

  pub no_k9 : (parts : List Expr) (item : HlType) (bound : ℕ) → Answer (exprs.List parts) → list_of h.expected ≡ Some (item, bound) → bound ≤ length parts → ⊥
  no_k9 parts item bound w is large =
      let a = wants_is (list_of h.expected) (item, bound) (rule_of h.alone) span h.met _ r is (opened s (ExprForm-F.List parts) (exprs.List parts) (exprs.rolls-List parts) span h r w) in
      let b = needs_there (nat_lt (length (map (expr_walk (context s)) parts)) bound) K9 span h.met _ r a in
      let less = ltb-true (length (map (expr_walk (context s)) parts)) bound b.0 in omega (arith, less, large, length-map parts (expr_walk (context s)))

  pub no_k11_call : (name : Mark) (arguments : List Expr) (f : Signature) → Answer (exprs.Call name arguments) → signature_named signatures name.text ≡ Some f → length arguments ≢ length f.params → ⊥
  no_k11_call name arguments f w is other =
      let g = known s name.text f is in
      let a = wants_is (function_named s.functions name.text) g.0 K3 name.span h.met _ r g.1 (opened s (ExprForm-F.Call name arguments) (exprs.Call name arguments) (exprs.rolls-Call name arguments) span h r w) in
      let b = needs_there (nat_eq (length (map (expr_walk (context s)) arguments)) (length (g.0).params)) K11 span h.met _ r a in
      other (many arguments (length (g.0).params) b.0 ∙ ap (λ (x : Signature). length x.params) g.2)

  pub no_k11_jet : (name : Mark) (arguments : List Expr) (row : Row) → Answer (exprs.Jet name arguments) → jet_named name.text ≡ Some row → length arguments ≢ length (jet_arguments row) → ⊥
  no_k11_jet name arguments row w is other =
      let a = wants_is (jet_named name.text) row K22 name.span h.met _ r is (opened s (ExprForm-F.Jet name arguments) (exprs.Jet name arguments) (exprs.rolls-Jet name arguments) span h r w) in
      let b = needs_there (nat_eq (length (map (expr_walk (context s)) arguments)) (length (jet_arguments row))) K11 span h.met _ r a in other (many arguments (length (jet_arguments row)) b.0)

  pub no_k12 : (text : TypeText) (e : Expr) (source : HlType) → Answer (exprs.Into text e) → walk s.aliases text ≡ Ok source → kinds.form source ≢ kinds.form h.expected → ⊥
  no_k12 text e source w is other =
      let a = step_there (walk s.aliases text) h.met _ r (opened s (ExprForm-F.Into text e) (exprs.Into text e) (exprs.rolls-Into text e) span h r w) in
      let b = needs_there (same_kind (kinds.form a.0) (kinds.form h.expected)) K12 span h.met _ r a.2 in
      let found : ◌≡◌ {A = Result HlType Broken} (Ok a.0) (Ok source) = sym a.1 ∙ is in
      let same : a.0 ≡ source = cc in
      other (ap kinds.form (sym same) ∙ kinds_equal (kinds.form a.0) (kinds.form h.expected) b.0)

  pub no_k13 : (e : Expr) (arms : List Arm) → Answer (exprs.Match e arms) → IsTrue (not (are_arms arms)) → ⊥
  no_k13 e arms w other =
      let t = two_arms s e arms h span r w in
      let m = match_ran s e t.0 t.1 h span r (subst (λ (l : List Arm). Answer (exprs.Match e l)) t.2 w) in
      not_both (are_arms arms) (ap are_arms t.2 ∙ m.are) other

  -- loops

  shape_there : (form : ExprForm) (name : Mark) (f : Signature) (params : List HlType) (result : HlType) → IsShapeless form name params result → params ≡ types_of f → result ≡ f.result → signature_named signatures name.text ≡ Some f → Answer form → ⊥
  shape_there _ _ f params result (no_fold name count items total _ _ none) params_are result_is is w =
      let g = known s name.text f is in
      let a = wants_is (function_named s.functions name.text) g.0 K3 name.span h.met _ r g.1 (opened s (ExprForm-F.Fold name count items total) (exprs.Fold name count items total) (exprs.rolls-Fold name count items total) span h r w) in
      let b = step_there (counted count) h.met _ r a in
      let c = needs_there (is_bound b.0) K15 count.span h.met _ r b.2 in
      let d = wants_there (fold_shape (param_types g.0) (g.0).result) K14 name.span h.met _ r c.1 in
      none_some (fold_shape (param_types g.0) (g.0).result) d.0
      (ap (λ (x : Signature). fold_shape (types_of x) x.result) g.2 ∙ ap (λ (l : List HlType). fold_shape l f.result) (sym params_are) ∙ ap (fold_shape params) (sym result_is) ∙ none) d.1
  shape_there _ _ f params result (no_array_fold name count items total _ _ none) params_are result_is is w =
      let g = known s name.text f is in
      let a = wants_is (function_named s.functions name.text) g.0 K3 name.span h.met _ r g.1 (opened s (ExprForm-F.ArrayFold name count items total) (exprs.ArrayFold name count items total) (exprs.rolls-ArrayFold name count items total) span h r w) in
      let b = step_there (counted count) h.met _ r a in
      let d = wants_there (fold_shape (param_types g.0) (g.0).result) K14 name.span h.met _ r b.2 in
      none_some (fold_shape (param_types g.0) (g.0).result) d.0
      (ap (λ (x : Signature). fold_shape (types_of x) x.result) g.2 ∙ ap (λ (l : List HlType). fold_shape l f.result) (sym params_are) ∙ ap (fold_shape params) (sym result_is) ∙ none) d.1
  shape_there _ _ f params result (no_while name total given _ _ none) params_are result_is is w =
      let g = known s name.text f is in
      let a = wants_is (function_named s.functions name.text) g.0 K3 name.span h.met _ r g.1 (opened s (ExprForm-F.ForWhile name total given) (exprs.ForWhile name total given) (exprs.rolls-ForWhile name total given) span h r w) in
      let d = wants_there (while_shape (param_types g.0) (g.0).result) K14 name.span h.met _ r a in
      none_some (while_shape (param_types g.0) (g.0).result) d.0
      (ap (λ (x : Signature). while_shape (types_of x) x.result) g.2 ∙ ap (λ (l : List HlType). while_shape l f.result) (sym params_are) ∙ ap (while_shape params) (sym result_is) ∙ none) d.1

  pub no_k14 : (form : ExprForm) (name : Mark) (f : Signature) → Answer form → signature_named signatures name.text ≡ Some f → IsShapeless form name (types_of f) f.result → ⊥
  no_k14 form name f w is shapeless = shape_there form name f (types_of f) f.result shapeless refl refl is w

  pub no_k15 : (name count : Mark) (items total : Expr) → Answer (exprs.Fold name count items total) → IsTrue (not (is_bound (decimal_value count.text))) → ⊥
  no_k15 name count items total w other =
      let a = wants_there (function_named s.functions name.text) K3 name.span h.met _ r (opened s (ExprForm-F.Fold name count items total) (exprs.Fold name count items total) (exprs.rolls-Fold name count items total) span h r w) in
      let b = step_there (counted count) h.met _ r a.2 in
      let c = needs_there (is_bound b.0) K15 count.span h.met _ r b.2 in
      not_both (is_bound (decimal_value count.text)) (ap is_bound (count_is count b.0 b.1) ∙ c.0) other

  pub no_l4 : (form : ExprForm) (count : Mark) → Counts form count → Answer form → 65536 < decimal_value count.text → ⊥
  no_l4 _ _ (fold_counts name count items total) w large =
      let a = wants_there (function_named s.functions name.text) K3 name.span h.met _ r (opened s (ExprForm-F.Fold name count items total) (exprs.Fold name count items total) (exprs.rolls-Fold name count items total) span h r w) in
      let b = step_there (counted count) h.met _ r a.2 in count_small count b.0 b.1 large
  no_l4 _ _ (array_fold_counts name count items total) w large =
      let a = wants_there (function_named s.functions name.text) K3 name.span h.met _ r (opened s (ExprForm-F.ArrayFold name count items total) (exprs.ArrayFold name count items total) (exprs.rolls-ArrayFold name count items total) span h r w) in
      let b = step_there (counted count) h.met _ r a.2 in count_small count b.0 b.1 large

  -- witnesses, parameters of the program and jets

  pub no_k16 : (name : Mark) → Answer (exprs.Witness name) → s.in_main ≡ false → ⊥
  no_k16 name w other = let a = needs_there s.in_main K16 name.span h.met _ r (opened s (ExprForm-F.Witness name) (exprs.Witness name) (exprs.rolls-Witness name) span h r w) in true_false s.in_main a.0 other

  may_there : (name : Mark) → Answer (exprs.Witness name) → (may_stand s.edition h.met name.text h.expected ≡ true) ×
      ◌≡◌ {A = Result (TypedForm × List TypedName) Broken} (Ok (typed.Witness name.text, h.met ++ record { name = name.text; kind = h.expected } ∷ [])) (Ok r)
  may_there name w =
      let a = needs_there s.in_main K16 name.span h.met _ r (opened s (ExprForm-F.Witness name) (exprs.Witness name) (exprs.rolls-Witness name) span h r w) in
      needs_there (may_stand s.edition h.met name.text h.expected) K17 name.span h.met _ r a.1

  -- in an edition other than 2 no name stands twice
  pub no_k17 : (name : Mark) → Answer (exprs.Witness name) → s.edition ≢ 2 → IsTrue (is_among h.before name.text) → ⊥
  no_k17 name w other among = go (variable_type h.met name.text) refl
    where
      go : (known : Option HlType) → variable_type h.met name.text ≡ known → ⊥
      go None is = true_false (has_name h.met name.text) (has_among h.met name.text ∙ ap (λ ns. is_among ns name.text) h.named.named ∙ among) (no_type h.met name.text is)
      go (Some first) is = other (eqb-true s.edition 2 (both_true (nat_eq s.edition 2) (same_type first h.expected) (ap (stands_again s.edition h.expected) (sym is) ∙ (may_there name w).0)).0)

  -- a witness that is met is met at the type that is expected
  pub met_here : (name : Mark) (P : TypedName → Type 0) → Answer (exprs.Witness name) → Every P r.1 → P (record { name = name.text; kind = h.expected })
  met_here name P w kept = (every_rest P h.met (record { name = name.text; kind = h.expected } ∷ []) (subst (Every P) (sym (ap (λ (x : TypedForm × List TypedName). x.1) (ok_same (may_there name w).1))) kept)).0

  pub no_k18 : (name : Mark) → Answer (exprs.Param name) → entry_named s.entries name.text ≡ None → ⊥
  no_k18 name w none =
      let a = wants_there (entry_named s.entries name.text) K18 name.span h.met _ r (opened s (ExprForm-F.Param name) (exprs.Param name) (exprs.rolls-Param name) span h r w) in none_some (entry_named s.entries name.text) a.0 none a.1

  pub no_k19 : (name : Mark) (entry : Entry) → Answer (exprs.Param name) → entry_named s.entries name.text ≡ Some entry → IsTrue (not (same_type entry.kind h.expected)) → ⊥
  no_k19 name entry w is other =
      let a = wants_is (entry_named s.entries name.text) entry K18 name.span h.met _ r is (opened s (ExprForm-F.Param name) (exprs.Param name) (exprs.rolls-Param name) span h r w) in
      not_both (same_type entry.kind h.expected) (needs_there (same_type entry.kind h.expected) K19 name.span h.met _ r a).0 other

  pub no_k22 : (name : Mark) (arguments : List Expr) → Answer (exprs.Jet name arguments) → jet_named name.text ≡ None → ⊥
  no_k22 name arguments w none =
      let a = wants_there (jet_named name.text) K22 name.span h.met _ r (opened s (ExprForm-F.Jet name arguments) (exprs.Jet name arguments) (exprs.rolls-Jet name arguments) span h r w) in none_some (jet_named name.text) a.0 none a.1
