-- Where the walk answers a program, no rule and no limit is broken at any place of it.
use Rattle.std.proofs.Common.{◌≡◌, ◌≢◌, ◌<◌, ℕ, Bool, true, false, not, ◌||◌, nat_eq, eqb-true, ltb-false, List, [], ◌∷◌, ◌++◌, length, map, bytes_eq, Option, Some, None, Result, Ok, Err, refl, sym, ap, ◌∙◌, subst, append-nil, IsTrue, arith}
use Rattle.std.specs.Prelude.{if◌then◌else◌}
use Rattle.std.proofs.lemmas.List.{length-map}
use Rattle.hl_data.specs.declared.typed.TypedFunction.{TypedFunction}
use Rattle.hl_data.specs.declared.value.Entry.{Entry}
use Rattle.hl_syntax.specs.declared.kinds.HlType.{HlType}
use Rattle.hl_syntax.specs.declared.kinds.TypedName.{TypedName}
use Rattle.hl_syntax.specs.declared.rules.Rule.TheVariants.{K5, K6, K8, K20, K24}
use Rattle.hl_syntax.specs.declared.token.Mark.{Mark}
use Rattle.hl_syntax.specs.declared.token.Span.{Span}
use Rattle.hl_syntax.specs.declared.tree.Expr.{Expr}
use Rattle.hl_syntax.specs.declared.tree.ExprForm.{ExprForm}
use Rattle.hl_syntax.specs.declared.tree.ExprForm.TheVariants as exprs
use Rattle.hl_syntax.specs.declared.tree.Item.{Item}
use Rattle.hl_syntax.specs.declared.tree.Item.TheVariants as items
use Rattle.hl_syntax.specs.declared.tree.Param.{Param}
use Rattle.hl_syntax.specs.declared.tree.Pattern.{Pattern}
use Rattle.hl_syntax.specs.declared.tree.PatternForm.TheOpen.{PatternForm-F}
use Rattle.hl_syntax.specs.declared.tree.PatternForm.TheVariants as patterns
use Rattle.hl_syntax.specs.declared.tree.TypeForm.{TypeForm}
use Rattle.hl_syntax.specs.declared.tree.TypeForm.TheOpen.{TypeForm-F}
use Rattle.hl_syntax.specs.declared.tree.TypeForm.TheVariants as types
use Rattle.hl_syntax.specs.declared.tree.TypeText.{TypeText}
use Rattle.simplicity.specs.Types.{weight}
use Rattle.simplicityhl.specs.Grammar.{is_among}
use Rattle.simplicityhl.specs.Kinds as kinds
use Rattle.simplicityhl.specs.Kinds.{is_bound}
use Rattle.simplicityhl.specs.Tokens.{decimal_value}
use Rattle.simplicityhl.specs.Written.{Broken, walk, counted, bounded, known, named}
use Rattle.hl_rules.specs.Before.{Signature, Declare, Holds, has_signature, signature_named}
use Rattle.hl_rules.specs.Breaks as breaks
use Rattle.hl_rules.specs.Breaks.{Breaks, Misfits, HasCount, array_length, list_bound, IsShapeless, made_type}
use Rattle.hl_rules.specs.Declared.{has_function, is_empty, result_walk}
use Rattle.hl_rules.specs.Names.{is_reserved, alias_words, function_words, variable_words}
use Rattle.hl_rules.specs.Occurs.{Place, Occurs}
use Rattle.hl_rules.specs.Patterns.{pattern_walk}
use Rattle.hl_rules.specs.Places.{has_name, is_main, variable_type}
use Rattle.hl_rules.specs.Programs as programs
use Rattle.hl_rules.specs.Programs.{Known, Checked, checked, checked_of, program_walk}
use Rattle.hl_rules.specs.Same.{same_type, unit_type, width_of, parts_of, array_of, list_of}
use Rattle.hl_rules.specs.Steps as steps
use Rattle.hl_rules.specs.Witnesses.{Names}
use Rattle.hl_rules.specs.Written.{IsWritten, IsMatched}
use Rattle.hl_rules.proofs.Here.{signature_of}
use Rattle.hl_rules.proofs.Names.{names_of, has_among}
use Rattle.hl_typing.specs.Laws.{AnsweredIsUnbroken}
use Rattle.hl_typing.proofs.Everywhere.{HasType, RunsAt, declared_ran, function_first, alias_first, occurs_runs}
use Rattle.hl_typing.proofs.Facts.{count_small, count_is, not_both, no_misfit, no_k3, no_k4, no_k7, no_k8_tuple, no_k8_array, no_k9, no_k11_call, no_k11_jet, no_k12, no_k13, no_k14, no_k15, no_l4, no_k16, no_k17, met_here, no_k18, no_k19, no_k22}
use Rattle.hl_typing.proofs.Heads.{AliasRan, HeadRan, param_names, params_at, params_long}
use Rattle.hl_typing.proofs.Once.{not_true}
use Rattle.hl_typing.proofs.Parts.{whole_of, written_ran, matched_ran, type_layer, pattern_layer}
use Rattle.hl_typing.proofs.Same.{same_itself}
use Rattle.hl_typing.proofs.Steps.{ran, ok_same, needs_ok, wants_ok}
use Rattle.hl_typing.proofs.There.{needs_there, none_some, true_false}

some_kind : (k l : HlType) → Some k ≡ Some l → k ≡ l
some_kind k l e = cc

same_not : (k l : HlType) → k ≡ l → IsTrue (not (same_type k l)) → ⊥
same_not k l is other = true_false (same_type k l) (ap (same_type k) (sym is) ∙ same_itself k) (not_true (same_type k l) other)

has_same : (functions : List TypedFunction) (name : List ℕ) → has_function functions name ≡ has_signature (map signature_of functions) name
has_same [] name = refl
has_same (f ∷ functions) name = ap (λ b. bytes_eq name f.name || b) (has_same functions name)

no_known : (span : Span) (o : Option HlType) (k : HlType) → o ≡ None → known span o ≡ Ok k → ⊥
no_known span (Some l) k none h = absurd (cc)
no_known span None k none h = absurd (cc)

bound_there : (b : Bool) (n m : ℕ) (broken : Broken) → (if b then Ok n else Err broken) ≡ Ok m → b ≡ true
bound_there true n m broken h = refl
bound_there false n m broken h = absurd (cc)

-- `main` takes nothing and gives the empty tuple

main_empty : (main empty : Bool) (same : Bool) → (if main then (if empty then same else false) else true) ≡ true → main ≡ true → empty ≡ true
main_empty true true same h m = refl
main_empty true false same h m = absurd (cc)
main_empty false empty same h m = absurd (cc)

main_same : (main empty : Bool) (same : Bool) → (if main then (if empty then same else false) else true) ≡ true → main ≡ true → same ≡ true
main_same true true same h m = h
main_same true false same h m = absurd (cc)
main_same false empty same h m = absurd (cc)

none_typed : (typed : List TypedName) → is_empty typed ≡ true → length typed ≡ 0
none_typed [] h = refl
none_typed (n ∷ typed) h = absurd (cc)

none_written : (params : List Param) → length params ≡ 0 → params ≡ []
none_written [] h = refl
none_written (p ∷ params) h = absurd (omega (arith, h))

module _ (program : List Item) (asked : List ℕ) (entries : List Entry) (edition end : ℕ) (final : Known × List TypedName) (answers : programs.items_walk entries edition (record { aliases = []; functions = [] }) program [] ≡ Ok final) (there : has_function final.0.functions asked ≡ true) where
  abbrev runs : (at : Place) (form : ExprForm) (span : Span) → Occurs program at form span → RunsAt program asked entries edition end final answers at form span
  runs at form span occurs = occurs_runs program asked entries edition end final answers at form span occurs

  -- the head of a function that a program has
  record FunctionAt (name : Mark) (params : List Param) (text : Option TypeText) (aliases : List TypedName) (signatures : List Signature) : Type 0 where
    functions : List TypedFunction
    are : map signature_of functions ≡ signatures
    typed : List TypedName
    result : HlType
    heads : HeadRan aliases functions name params text (record { params = typed; result = result })

  function_at : (name : Mark) (params : List Param) (text : Option TypeText) (e : Expr) (span : Span) (aliases : List TypedName) (signatures : List Signature) → Holds program (items.Function name params text e span) aliases signatures →
      FunctionAt name params text aliases signatures
  function_at name params text e span aliases signatures holds =
      let d = declared_ran program asked entries edition end final answers holds.before aliases signatures holds.declared (items.Function name params text e span ∷ holds.after) holds.is in
      let f = function_first program asked entries edition end final answers aliases d.functions name params text e span holds.after d.met d.runs in
      record { functions = d.functions; are = d.are; typed = f.1.head.params; result = f.1.head.result; heads = f.1.heads }

  alias_at : (name : Mark) (text : TypeText) (span : Span) (aliases : List TypedName) (signatures : List Signature) → Holds program (items.Alias name text span) aliases signatures → (found : List TypedName) × AliasRan aliases name text found
  alias_at name text span aliases signatures holds =
      let d = declared_ran program asked entries edition end final answers holds.before aliases signatures holds.declared (items.Alias name text span ∷ holds.after) holds.is in
      let f = alias_first program asked entries edition end final answers aliases d.functions name text span holds.after d.met d.runs in
      (f.0, f.1)

  record ParamAt (before : List Param) (param : Param) : Type 0 where
    here : List TypedName
    named : names_of here ≡ param_names before
    fresh : has_name here param.name.text ≡ false
    unreserved : is_reserved variable_words param.name.text ≡ false

  param_at : (name : Mark) (before after : List Param) (param : Param) (text : Option TypeText) (e : Expr) (span : Span) (aliases : List TypedName) (signatures : List Signature) → Holds program (items.Function name (before ++ param ∷ after) text e span) aliases signatures → ParamAt before param
  param_at name before after param text e span aliases signatures holds =
      let f = function_at name (before ++ param ∷ after) text e span aliases signatures holds in
      let p = params_at aliases before param after [] f.typed [] refl f.heads.params_are in
      record { here = p.0; named = p.2; fresh = p.3.fresh; unreserved = p.3.unreserved }

  -- heads

  no_k1_function : (name : Mark) (params : List Param) (text : Option TypeText) (e : Expr) (span : Span) (aliases : List TypedName) (functions : List Signature) → Holds program (items.Function name params text e span) aliases functions →
      IsTrue (has_signature functions name.text) → ⊥
  no_k1_function name params text e span aliases functions holds has =
      let f = function_at name params text e span aliases functions holds in
      true_false (has_function f.functions name.text) (has_same f.functions name.text ∙ ap (λ (l : List Signature). has_signature l name.text) f.are ∙ has) f.heads.fresh

  no_k20 : (aliases : List TypedName) (functions : List Signature) → Declare program aliases functions → IsTrue (not (has_signature functions asked)) → ⊥
  no_k20 aliases functions declared other =
      let d = declared_ran program asked entries edition end final answers program aliases functions declared [] (sym (append-nil program)) in
      let functions_are : d.functions ≡ final.0.functions = ap (λ (x : Known × List TypedName). x.0.functions) (ok_same d.runs) in
      not_both (has_signature functions asked) (ap (λ (l : List Signature). has_signature l asked) (sym d.are) ∙ sym (has_same d.functions asked) ∙ ap (λ (l : List TypedFunction). has_function l asked) functions_are ∙ there) other

  no_k21_params : (name : Mark) (params : List Param) (text : Option TypeText) (e : Expr) (span : Span) (aliases : List TypedName) (functions : List Signature) → Holds program (items.Function name params text e span) aliases functions →
      IsTrue (is_main name.text) → params ≢ [] → ⊥
  no_k21_params name params text e span aliases functions holds main some =
      let f = function_at name params text e span aliases functions holds in
      let empty = main_empty (is_main name.text) (is_empty f.typed) (same_type unit_type f.result) f.heads.may main in
      let long = params_long aliases params [] f.typed f.heads.params_are in
      let none = none_typed f.typed empty in
      let short : length params ≡ 0 = omega (arith, long, none) in
      some (none_written params short)

  no_k21_result : (name : Mark) (params : List Param) (text : Option TypeText) (e : Expr) (span : Span) (aliases : List TypedName) (functions : List Signature) (result : HlType) → Holds program (items.Function name params text e span) aliases functions →
      IsTrue (is_main name.text) → result_walk aliases text ≡ Ok result → IsTrue (not (same_type unit_type result)) → ⊥
  no_k21_result name params text e span aliases functions result holds main is other =
      let f = function_at name params text e span aliases functions holds in
      let same = main_same (is_main name.text) (is_empty f.typed) (same_type unit_type f.result) f.heads.may main in
      let result_is : f.result ≡ result = ok_same (sym f.heads.result_is ∙ is) in
      not_both (same_type unit_type result) (ap (same_type unit_type) (sym result_is) ∙ same) other

  -- types

  no_k2 : (aliases : List TypedName) (name : List ℕ) (span : Span) → IsWritten program aliases (types.Name name) span → named aliases name ≡ None → ⊥
  no_k2 aliases name span w none =
      let t = written_ran program asked entries edition end final answers aliases (types.Name name) span w in
      no_known span (named aliases name) t.kind none (type_layer aliases (TypeForm-F.Name name) (types.Name name) (types.rolls-Name name) span t.kind t.is)

  no_k10 : (aliases : List TypedName) (item : TypeText) (bound : Mark) (span : Span) → IsWritten program aliases (types.List item bound) span → IsTrue (not (is_bound (decimal_value bound.text))) → ⊥
  no_k10 aliases item bound span w other =
      let t = written_ran program asked entries edition end final answers aliases (types.List item bound) span w in
      let a = ran (walk aliases item) _ t.kind (type_layer aliases (TypeForm-F.List item bound) (types.List item bound) (types.rolls-List item bound) span t.kind t.is) in
      let b = ran (counted bound) _ t.kind a.is in
      let c = ran (bounded bound b.from) _ t.kind b.is in
      not_both (is_bound (decimal_value bound.text)) (ap is_bound (count_is bound b.from b.was) ∙ bound_there (is_bound b.from) b.from c.from _ c.was) other

  no_l4_type : (aliases : List TypedName) (form : TypeForm) (span : Span) (count : Mark) → HasCount form count → IsWritten program aliases form span → 65536 < decimal_value count.text → ⊥
  no_l4_type aliases _ span _ (array_length item length) w large =
      let t = written_ran program asked entries edition end final answers aliases (types.Array item length) span w in
      let a = ran (walk aliases item) _ t.kind (type_layer aliases (TypeForm-F.Array item length) (types.Array item length) (types.rolls-Array item length) span t.kind t.is) in
      let b = ran (counted length) _ t.kind a.is in count_small length b.from b.was large
  no_l4_type aliases _ span _ (list_bound item bound) w large =
      let t = written_ran program asked entries edition end final answers aliases (types.List item bound) span w in
      let a = ran (walk aliases item) _ t.kind (type_layer aliases (TypeForm-F.List item bound) (types.List item bound) (types.rolls-List item bound) span t.kind t.is) in
      let b = ran (counted bound) _ t.kind a.is in count_small bound b.from b.was large

  no_l5 : (aliases : List TypedName) (form : TypeForm) (span : Span) (kind : HlType) → IsWritten program aliases form span → made_type aliases form span ≡ Ok kind → 4194304 < weight (kinds.form kind) → ⊥
  no_l5 aliases form span kind w is heavy =
      let t = written_ran program asked entries edition end final answers aliases form span w in
      let same : t.kind ≡ kind = ok_same (sym t.is ∙ is) in
      let light = ltb-false 4194304 (weight (kinds.form t.kind)) t.small in
      let heavy' : 4194304 < weight (kinds.form t.kind) = subst (λ (k : HlType). 4194304 < weight (kinds.form k)) (sym same) heavy in
      omega (arith, light, heavy')

  -- patterns

  no_name : (name : List ℕ) (span : Span) (kind : HlType) (before : Names) → IsMatched program (patterns.Name name) span kind before → (is_reserved variable_words name ≡ false) × (is_among before name ≡ false)
  no_name name span kind before m =
      let t = matched_ran program asked entries edition end final answers (patterns.Name name) span kind before m in
      let w = pattern_layer (PatternForm-F.Name name) (patterns.Name name) (patterns.rolls-Name name) span kind t.bound t.after t.is in
      let a = ran (steps.needs (not (is_reserved variable_words name)) K24 span) _ t.after w in
      let b = ran (steps.needs (not (has_name t.bound name)) K5 span) _ t.after a.is in (
        not_true (is_reserved variable_words name) (needs_ok (not (is_reserved variable_words name)) K24 span a.from a.was),
        ap (λ ns. is_among ns name) (sym t.named) ∙ sym (has_among t.bound name) ∙ not_true (has_name t.bound name) (needs_ok (not (has_name t.bound name)) K5 span b.from b.was),
      )

  long_as : (parts : List Pattern) (n : ℕ) → nat_eq (length (map pattern_walk parts)) n ≡ true → length parts ≡ n
  long_as parts n h = sym (length-map parts pattern_walk) ∙ eqb-true _ _ h

  tuple_there : (parts : List Pattern) (span : Span) (kind : HlType) (before : Names) → IsMatched program (patterns.Tuple parts) span kind before → (ks : List HlType) × (parts_of kind ≡ Some ks) × (length parts ≡ length ks)
  tuple_there parts span kind before m =
      let t = matched_ran program asked entries edition end final answers (patterns.Tuple parts) span kind before m in
      let w = pattern_layer (PatternForm-F.Tuple parts) (patterns.Tuple parts) (patterns.rolls-Tuple parts) span kind t.bound t.after t.is in
      let a = ran (steps.wants (parts_of kind) K6 span) _ t.after w in
      let b = ran (steps.needs (nat_eq (length (map pattern_walk parts)) (length a.from)) K8 span) _ t.after a.is in
      (a.from, wants_ok (parts_of kind) K6 span a.from a.was, long_as parts (length a.from) (needs_ok _ K8 span b.from b.was))

  array_there : (parts : List Pattern) (span : Span) (kind : HlType) (before : Names) → IsMatched program (patterns.Array parts) span kind before → (x : HlType × ℕ) × (array_of kind ≡ Some x) × (length parts ≡ x.1)
  array_there parts span kind before m =
      let t = matched_ran program asked entries edition end final answers (patterns.Array parts) span kind before m in
      let w = pattern_layer (PatternForm-F.Array parts) (patterns.Array parts) (patterns.rolls-Array parts) span kind t.bound t.after t.is in
      let a = ran (steps.wants (array_of kind) K6 span) _ t.after w in
      let b = ran (steps.needs (nat_eq (length (map pattern_walk parts)) a.from.1) K8 span) _ t.after a.is in
      (a.from, wants_ok (array_of kind) K6 span a.from a.was, long_as parts a.from.1 (needs_ok _ K8 span b.from b.was))

  same_some : {A : Type 0} (x y : A) → Some x ≡ Some y → x ≡ y
  same_some x y h = cc

  unbroken : (broken : Broken) → Breaks program asked entries edition end broken → ⊥
  unbroken _ (breaks.k1_function name params text e span aliases functions holds has) = no_k1_function name params text e span aliases functions holds has
  unbroken _ (breaks.k1_alias name text span aliases functions holds has) = let a = alias_at name text span aliases functions holds in true_false (has_name aliases name.text) has a.1.fresh
  unbroken _ (breaks.k2 aliases name span w none) = no_k2 aliases name span w none
  unbroken _ (breaks.k3 at form span name occurs calls none) =
      let r = runs at form span occurs in no_k3 (whole_of program asked entries edition end final answers r) r.here span r.found form name calls r.runs (subst (λ (p : Place). signature_named p.functions name.text ≡ None) (sym r.place_is) none)
  unbroken _ (breaks.k4 at name span occurs none) =
      let r = runs at (exprs.Name name) span occurs in no_k4 (whole_of program asked entries edition end final answers r) r.here span r.found name r.runs (subst (λ (p : Place). variable_type p.scope name ≡ None) (sym r.place_is) none)
  unbroken _ (breaks.k5_pattern name span kind before m among) = true_false (is_among before name) among (no_name name span kind before m).1
  unbroken _ (breaks.k5_param name before after param text e span aliases functions holds among) =
      let p = param_at name before after param text e span aliases functions holds in
      true_false (has_name p.here param.name.text) (has_among p.here param.name.text ∙ ap (λ ns. is_among ns param.name.text) p.named ∙ among) p.fresh
  unbroken _ (breaks.k6 at form span occurs misfits stands) =
      let r = runs at form span occurs in no_misfit (whole_of program asked entries edition end final answers r) r.here span r.found form (subst (λ (p : Place). Misfits p form) (sym r.place_is) misfits) r.runs
  unbroken _ (breaks.k6_tuple_pattern parts span kind before m none) = let t = tuple_there parts span kind before m in none_some (parts_of kind) t.0 none t.1
  unbroken _ (breaks.k6_array_pattern parts span kind before m none) = let t = array_there parts span kind before m in none_some (array_of kind) t.0 none t.1
  unbroken _ (breaks.k7 at word span width occurs is large) =
      let r = runs at (exprs.Literal word) span occurs in no_k7 (whole_of program asked entries edition end final answers r) r.here span r.found word width r.runs (subst (λ (p : Place). width_of p.expected ≡ Some width) (sym r.place_is) is) large
  unbroken _ (breaks.k8_tuple at parts span ks occurs is other) =
      let r = runs at (exprs.Tuple parts) span occurs in no_k8_tuple (whole_of program asked entries edition end final answers r) r.here span r.found parts ks r.runs (subst (λ (p : Place). parts_of p.expected ≡ Some ks) (sym r.place_is) is) other
  unbroken _ (breaks.k8_array at parts span item count occurs is other) =
      let r = runs at (exprs.Array parts) span occurs in
      no_k8_array (whole_of program asked entries edition end final answers r) r.here span r.found parts item count r.runs (subst (λ (p : Place). array_of p.expected ≡ Some (item, count)) (sym r.place_is) is) other
  unbroken _ (breaks.k8_tuple_pattern parts span kind before ks m is other) =
      let t = tuple_there parts span kind before m in other (t.2 ∙ ap length (same_some t.0 ks (sym t.1 ∙ is)))
  unbroken _ (breaks.k8_array_pattern parts span kind before item count m is other) =
      let t = array_there parts span kind before m in other (t.2 ∙ ap (λ (x : HlType × ℕ). x.1) (same_some t.0 (item, count) (sym t.1 ∙ is)))
  unbroken _ (breaks.k9 at parts span item bound occurs is large) =
      let r = runs at (exprs.List parts) span occurs in
      no_k9 (whole_of program asked entries edition end final answers r) r.here span r.found parts item bound r.runs (subst (λ (p : Place). list_of p.expected ≡ Some (item, bound)) (sym r.place_is) is) large
  unbroken _ (breaks.k10 aliases item bound span w other) = no_k10 aliases item bound span w other
  unbroken _ (breaks.k11_call at name arguments span f occurs is other) =
      let r = runs at (exprs.Call name arguments) span occurs in
      no_k11_call (whole_of program asked entries edition end final answers r) r.here span r.found name arguments f r.runs (subst (λ (p : Place). signature_named p.functions name.text ≡ Some f) (sym r.place_is) is) other
  unbroken _ (breaks.k11_jet at name arguments span row occurs is other) =
      let r = runs at (exprs.Jet name arguments) span occurs in no_k11_jet (whole_of program asked entries edition end final answers r) r.here span r.found name arguments row r.runs is other
  unbroken _ (breaks.k12 at text e span source occurs is other) =
      let r = runs at (exprs.Into text e) span occurs in
      no_k12 (whole_of program asked entries edition end final answers r) r.here span r.found text e source r.runs (subst (λ (p : Place). walk p.aliases text ≡ Ok source) (sym r.place_is) is)
      (subst (λ (p : Place). kinds.form source ≢ kinds.form p.expected) (sym r.place_is) other)
  unbroken _ (breaks.k13 at e arms span occurs other) =
      let r = runs at (exprs.Match e arms) span occurs in no_k13 (whole_of program asked entries edition end final answers r) r.here span r.found e arms r.runs other
  unbroken _ (breaks.k14 at form span name f occurs is shapeless) =
      let r = runs at form span occurs in
      no_k14 (whole_of program asked entries edition end final answers r) r.here span r.found form name f r.runs (subst (λ (p : Place). signature_named p.functions name.text ≡ Some f) (sym r.place_is) is) shapeless
  unbroken _ (breaks.k15 at name count list total span occurs other) =
      let r = runs at (exprs.Fold name count list total) span occurs in no_k15 (whole_of program asked entries edition end final answers r) r.here span r.found name count list total r.runs other
  unbroken _ (breaks.k16 at name span occurs other) =
      let r = runs at (exprs.Witness name) span occurs in no_k16 (whole_of program asked entries edition end final answers r) r.here span r.found name r.runs (subst (λ (p : Place). p.in_main ≡ false) (sym r.place_is) other)
  unbroken _ (breaks.k17 at name span other occurs among) =
      let r = runs at (exprs.Witness name) span occurs in
      no_k17 (whole_of program asked entries edition end final answers r) r.here span r.found name r.runs other (subst (λ (p : Place). IsTrue (is_among p.witnesses name.text)) (sym r.place_is) among)
  unbroken _ (breaks.k17_type first at here name stands span second occurs_first same alone occurs among other) =
      let q = runs first (exprs.Witness here) stands occurs_first in
      let r = runs at (exprs.Witness name) span occurs in
      let P = HasType program asked entries edition end final answers in
      let one : variable_type final.1 here.text ≡ Some q.here.expected = met_here (whole_of program asked entries edition end final answers q) q.here stands q.found here P q.runs q.kept in
      let two : variable_type final.1 name.text ≡ Some r.here.expected = met_here (whole_of program asked entries edition end final answers r) r.here span r.found name P r.runs r.kept in
      let kinds_are : q.here.expected ≡ r.here.expected = some_kind q.here.expected r.here.expected (sym one ∙ ap (variable_type final.1) same ∙ two) in
      let first_is : first.expected ≡ at.expected = sym (ap (λ (p : Place). p.expected) q.place_is) ∙ kinds_are ∙ ap (λ (p : Place). p.expected) r.place_is in
      same_not first.expected at.expected first_is other
  unbroken _ (breaks.k18 at name span occurs none) =
      let r = runs at (exprs.Param name) span occurs in no_k18 (whole_of program asked entries edition end final answers r) r.here span r.found name r.runs none
  unbroken _ (breaks.k19 at name span entry occurs is other) =
      let r = runs at (exprs.Param name) span occurs in
      no_k19 (whole_of program asked entries edition end final answers r) r.here span r.found name entry r.runs is (subst (λ (p : Place). IsTrue (not (same_type entry.kind p.expected))) (sym r.place_is) other)
  unbroken _ (breaks.k20 aliases functions declared other) = no_k20 aliases functions declared other
  unbroken _ (breaks.k21_params name params text e span aliases functions holds main some) = no_k21_params name params text e span aliases functions holds main some
  unbroken _ (breaks.k21_result name params text e span aliases functions result holds main is other) = no_k21_result name params text e span aliases functions result holds main is other
  unbroken _ (breaks.k22 at name arguments span occurs none) =
      let r = runs at (exprs.Jet name arguments) span occurs in no_k22 (whole_of program asked entries edition end final answers r) r.here span r.found name arguments r.runs none
  unbroken _ (breaks.k23 at form span occurs misfits stands) =
      let r = runs at form span occurs in no_misfit (whole_of program asked entries edition end final answers r) r.here span r.found form (subst (λ (p : Place). Misfits p form) (sym r.place_is) misfits) r.runs
  unbroken _ (breaks.k24_alias name text span aliases functions holds reserved) = let a = alias_at name text span aliases functions holds in true_false (is_reserved alias_words name.text) reserved a.1.unreserved
  unbroken _ (breaks.k24_function name params text e span aliases functions holds reserved) =
      let f = function_at name params text e span aliases functions holds in true_false (is_reserved function_words name.text) reserved f.heads.unreserved
  unbroken _ (breaks.k24_param name before after param text e span aliases functions holds reserved) =
      let p = param_at name before after param text e span aliases functions holds in true_false (is_reserved variable_words param.name.text) reserved p.unreserved
  unbroken _ (breaks.k24_pattern name span kind before m reserved) = true_false (is_reserved variable_words name) reserved (no_name name span kind before m).0
  unbroken _ (breaks.l4_type aliases form span count w counts large) = no_l4_type aliases form span count counts w large
  unbroken _ (breaks.l4_fold at form span count occurs counts large) =
      let r = runs at form span occurs in no_l4 (whole_of program asked entries edition end final answers r) r.here span r.found form count counts r.runs large
  unbroken _ (breaks.l5 aliases form span kind w is heavy) = no_l5 aliases form span kind w is heavy

program_unbroken : (program : List Item) (asked : List ℕ) (entries : List Entry) (edition end : ℕ) (found : List TypedFunction × List TypedName) → program_walk program asked entries edition end [] ≡ Ok found → (broken : Broken) → Breaks program asked entries edition end broken → ⊥
program_unbroken program asked entries edition end found h broken b =
    let a = ran (programs.items_walk entries edition (record { aliases = []; functions = [] }) program []) _ found h in
    let c = needs_there (has_function a.from.0.functions asked) K20 (record { start = end; end = end }) a.from.1 _ found a.is in
    unbroken program asked entries edition end a.from a.was c.0 broken b

pub answered_unbroken : AnsweredIsUnbroken
unfolding checked
answered_unbroken source asked entries edition end program h broken b = walked (program_walk source asked entries edition end []) refl h
  where
    walked : (w : Result (List TypedFunction × List TypedName) Broken) → program_walk source asked entries edition end [] ≡ w → checked_of edition w ≡ Ok program → ⊥
    walked (Err other) is e = absurd (cc)
    walked (Ok found) is e = program_unbroken source asked entries edition end found is broken b
