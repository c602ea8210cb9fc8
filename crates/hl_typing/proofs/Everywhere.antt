-- Where the walk of a program answers, the walk at each of its places did.
use Rattle.std.proofs.Common.{◌≡◌, ℕ, Bool, false, List, [], ◌∷◌, ◌++◌, map, flat_map, Option, Some, Ok, refl, sym, ap, ◌∙◌, subst, append_assoc, append-nil}
use Rattle.std.proofs.lemmas.List.{map-append}
use Rattle.hl_data.specs.declared.typed.TypedExpr.{TypedExpr}
use Rattle.hl_data.specs.declared.typed.TypedFunction.{TypedFunction}
use Rattle.hl_data.specs.declared.value.Entry.{Entry}
use Rattle.hl_syntax.specs.declared.kinds.HlType.{HlType}
use Rattle.hl_syntax.specs.declared.kinds.TypedName.{TypedName}
use Rattle.hl_syntax.specs.declared.rules.Rule.TheVariants.{K6}
use Rattle.hl_syntax.specs.declared.token.Mark.{Mark}
use Rattle.hl_syntax.specs.declared.token.Span.{Span}
use Rattle.hl_syntax.specs.declared.tree.Expr.{Expr}
use Rattle.hl_syntax.specs.declared.tree.ExprForm.{ExprForm}
use Rattle.hl_syntax.specs.declared.tree.ExprForm.TheVariants as exprs
use Rattle.hl_syntax.specs.declared.tree.Item.{Item}
use Rattle.hl_syntax.specs.declared.tree.Item.TheVariants as items
use Rattle.hl_syntax.specs.declared.tree.Param.{Param}
use Rattle.hl_syntax.specs.declared.tree.Statement.TheVariants as statements
use Rattle.hl_syntax.specs.declared.tree.TypeText.{TypeText}
use Rattle.simplicityhl.specs.Written.{walk}
use Rattle.hl_rules.specs.Before.{Signature, AreTyped, Declare, Holds, nothing, an_alias, a_function}
use Rattle.hl_rules.specs.Declared.{Head, alias_walk, head_walk, result_walk}
use Rattle.hl_rules.specs.Exprs.{expr_walk, side_walk, matched_type}
use Rattle.hl_rules.specs.Occurs.{Place, Occurs, HasParts, Leaves, inside, with_scope, alone}
use Rattle.hl_rules.specs.Occurs as occurs
use Rattle.hl_rules.specs.Places.{is_main, variable_type}
use Rattle.hl_rules.specs.Programs.{Known, function_walk, item_walk, items_walk}
use Rattle.hl_rules.specs.Witnesses.{expr_names, statement_names, arm_names, item_names}
use Rattle.hl_rules.proofs.Here.{Setting, Here, Met, ◌⊙◌, nothing_met, context, signature_of}
use Rattle.hl_rules.proofs.Names.{flat_more}
use Rattle.hl_typing.proofs.Heads.{AliasRan, alias_ran, HeadRan, head_ran, all_typed}
use Rattle.hl_typing.proofs.Every.{Every}
use Rattle.hl_typing.proofs.Keeping.{program_keeps}
use Rattle.hl_typing.proofs.Reached.{Runs, Ran, meets, runs_at, part_runs}
use Rattle.hl_typing.proofs.Steps.{ran, ok_same}
use Rattle.hl_typing.proofs.There.{step_there}
use Rattle.hl_typing.proofs.Within.{value_runs, statement_runs, last_runs, scrutinee_runs, arm_runs}

module _ (program : List Item) (asked : List ℕ) (entries : List Entry) (edition end : ℕ) (final : Known × List TypedName) (answers : items_walk entries edition (record { aliases = []; functions = [] }) program [] ≡ Ok final) where
  abbrev pub setting : List TypedName → List TypedFunction → Bool → Setting
  setting aliases functions in_main = record { program = program; asked = asked; entries = entries; edition = edition; end = end; aliases = aliases; functions = functions; in_main = in_main }

  abbrev pub known_as : List TypedName → List TypedFunction → Known
  known_as aliases functions = record { aliases = aliases; functions = functions }

  -- the walk after items with what they declare
  pub record DeclaredRan (before : List Item) (aliases : List TypedName) (signatures : List Signature) (rest : List Item) : Type 0 where
    pub functions : List TypedFunction
    pub are : map signature_of functions ≡ signatures
    pub met : List TypedName
    pub named : Met program (flat_map item_names before) met
    pub runs : items_walk entries edition (known_as aliases functions) rest met ≡ Ok final

  -- the walk of a function, as its head is written
  pub record FunctionRan (aliases : List TypedName) (functions : List TypedFunction) (name : Mark) (params : List Param) (text : Option TypeText) (body : Expr) (met : List TypedName) (found : TypedFunction × List TypedName) : Type 0 where
    pub head : Head
    pub heads : HeadRan aliases functions name params text head
    pub value : TypedExpr × List TypedName
    pub runs : Ran (setting aliases functions (is_main name.text)) body head.params head.result K6 met value
    pub is : ◌≡◌ {A = TypedFunction × List TypedName} (record { name = name.text; params = head.params; result = head.result; body = value.0 }, value.1) found

  function_ran : (aliases : List TypedName) (functions : List TypedFunction) (name : Mark) (params : List Param) (text : Option TypeText) (body : Expr) (met : List TypedName) (found : TypedFunction × List TypedName) →
      function_walk entries edition (known_as aliases functions) name params text body met ≡ Ok found → FunctionRan aliases functions name params text body met found
  function_ran aliases functions name params text body met found h =
      let a = step_there (head_walk aliases functions name params text) met _ found h in
      let b = ran (expr_walk (context (setting aliases functions (is_main name.text))) body a.0.params a.0.result K6 met) _ found a.2 in
      record { head = a.0; heads = head_ran aliases functions name params text a.0 a.1; value = b.from; runs = b.was; is = ok_same b.is }

  -- the first item that is left
  pub function_first : (aliases : List TypedName) (functions : List TypedFunction) (name : Mark) (params : List Param) (text : Option TypeText) (body : Expr) (span : Span) (rest : List Item) (met : List TypedName) →
      items_walk entries edition (known_as aliases functions) (items.Function name params text body span ∷ rest) met ≡ Ok final →
      (found : TypedFunction × List TypedName) × FunctionRan aliases functions name params text body met found × (items_walk entries edition (known_as aliases (functions ++ found.0 ∷ [])) rest found.1 ≡ Ok final)
  function_first aliases functions name params text body span rest met h =
      let a = ran (item_walk entries edition (known_as aliases functions) (items.Function name params text body span) met) _ final h in
      let b = ran (function_walk entries edition (known_as aliases functions) name params text body met) _ a.from a.was in
      let same : ◌≡◌ {A = Known × List TypedName} (known_as aliases (functions ++ b.from.0 ∷ []), b.from.1) a.from = ok_same b.is in
      (b.from, function_ran aliases functions name params text body met b.from b.was, ap (λ (k : Known × List TypedName). items_walk entries edition k.0 rest k.1) same ∙ a.is)

  pub alias_first : (aliases : List TypedName) (functions : List TypedFunction) (name : Mark) (text : TypeText) (span : Span) (rest : List Item) (met : List TypedName) →
      items_walk entries edition (known_as aliases functions) (items.Alias name text span ∷ rest) met ≡ Ok final →
      (found : List TypedName) × AliasRan aliases name text found × (items_walk entries edition (known_as found functions) rest met ≡ Ok final)
  alias_first aliases functions name text span rest met h =
      let a = ran (item_walk entries edition (known_as aliases functions) (items.Alias name text span) met) _ final h in
      let b = step_there (alias_walk aliases name text) met _ a.from a.was in
      let same : ◌≡◌ {A = Known × List TypedName} (known_as b.0 functions, met) a.from = ok_same b.2 in
      (b.0, alias_ran aliases name text b.0 b.1, ap (λ (k : Known × List TypedName). items_walk entries edition k.0 rest k.1) same ∙ a.is)

  pub declared_ran : (before : List Item) (aliases : List TypedName) (signatures : List Signature) → Declare before aliases signatures → (rest : List Item) → program ≡ before ++ rest → DeclaredRan before aliases signatures rest
  declared_ran _ _ _ nothing rest is = record { functions = []; are = refl; met = []; named = nothing_met program; runs = subst (λ (l : List Item). items_walk entries edition (known_as [] []) l [] ≡ Ok final) is answers }
  declared_ran _ _ _ (an_alias before aliases signatures name text span kind declared written) rest is =
      let item = items.Alias name text span in
      let d = declared_ran before aliases signatures declared (item ∷ rest) (is ∙ append_assoc before (item ∷ []) rest) in
      let f = alias_first aliases d.functions name text span rest d.met d.runs in
      let kind_is : f.1.kind ≡ kind = ok_same (sym f.1.written ∙ written) in
      let found_is : f.0 ≡ aliases ++ record { name = name.text; kind = kind } ∷ [] = sym f.1.is ∙ ap (λ (k : HlType). aliases ++ record { name = name.text; kind = k } ∷ []) kind_is in
      record {
        functions = d.functions;
        are = d.are;
        met = d.met;
        named = d.named ⊙ sym (append-nil _) ∙ flat_more item_names before item [];
        runs = subst (λ (l : List TypedName). items_walk entries edition (known_as l d.functions) rest d.met ≡ Ok final) found_is f.2;
      }
  declared_ran _ _ _ (a_function before aliases signatures name params text body span typed result declared are written) rest is =
      let item = items.Function name params text body span in
      let is' : program ≡ before ++ item ∷ rest = is ∙ append_assoc before (item ∷ []) rest in
      let d = declared_ran before aliases signatures declared (item ∷ rest) is' in
      let f = function_first aliases d.functions name params text body span rest d.met d.runs in
      let s = setting aliases d.functions (is_main name.text) in
      let typed_is : f.1.head.params ≡ typed = all_typed aliases params typed f.1.head.params are f.1.heads.params_are in
      let result_is : f.1.head.result ≡ result = ok_same (sym f.1.heads.result_is ∙ written) in
      let holds : Holds program item aliases (map signature_of d.functions) = record { before = before; after = rest; is = is'; declared = subst (Declare before aliases) (sym d.are) declared } in
      let here : Here program = record { scope = typed; expected = result; alone = false; before = flat_map item_names before; met = d.met; named = d.named } in
      let runs = subst (λ (k : HlType). Ran s body typed k K6 d.met f.1.value) result_is (subst (λ (l : List TypedName). Ran s body l f.1.head.result K6 d.met f.1.value) typed_is f.1.runs) in
      let named = meets s body here (occurs.body name params text body span aliases (map signature_of d.functions) typed result holds are written) f.1.value runs in
      let signature_is : signature_of f.0.0 ≡ record { name = name.text; params = typed; result = result } =
      ap (λ (x : TypedFunction × List TypedName). signature_of x.0) (sym f.1.is)
      ∙ ap (λ (l : List TypedName). let g : Signature = record { name = name.text; params = l; result = f.1.head.result } in g) typed_is
      ∙ ap (λ (k : HlType). let g : Signature = record { name = name.text; params = typed; result = k } in g) result_is in
      record {
        functions = d.functions ++ f.0.0 ∷ [];
        are = map-append signature_of d.functions (f.0.0 ∷ []) ∙ ap (λ (l : List Signature). l ++ signature_of f.0.0 ∷ []) d.are ∙ ap (λ (g : Signature). signatures ++ g ∷ []) signature_is;
        met = f.0.1;
        named = subst (Met program (flat_map item_names before ++ expr_names body)) (ap (λ (x : TypedFunction × List TypedName). x.1) f.1.is) named ⊙ flat_more item_names before item [];
        runs = f.2;
      }

  -- a witness that is met has the type that its name has among all
  abbrev pub HasType : TypedName → Type 0
  HasType n = variable_type final.1 n.name ≡ Some n.kind

  all_have : Every HasType final.1
  all_have = ((program_keeps edition HasType entries (known_as [] []) program [] final.1 final.0 answers).on (record { once = λ _. tt; agree = tt })).agree

  abbrev pub RunsAt : Place → ExprForm → Span → Type 0
  RunsAt = Runs program asked entries edition end HasType

  body_runs : (name : Mark) (params : List Param) (text : Option TypeText) (e : Expr) (span : Span) (aliases : List TypedName) (signatures : List Signature) (typed : List TypedName) (result : HlType)
      (item : Holds program (items.Function name params text e span) aliases signatures) → AreTyped aliases params typed → result_walk aliases text ≡ Ok result →
      RunsAt (record { aliases = aliases; functions = signatures; in_main = is_main name.text; scope = typed; expected = result; stands_alone = false; witnesses = flat_map item_names item.before }) e.form e.span
  body_runs name params text e span aliases signatures typed result item are written =
      let d = declared_ran item.before aliases signatures item.declared (items.Function name params text e span ∷ item.after) item.is in
      let f = function_first aliases d.functions name params text e span item.after d.met d.runs in
      let s = setting aliases d.functions (is_main name.text) in
      let after = (program_keeps edition HasType entries (known_as aliases (d.functions ++ f.0.0 ∷ [])) item.after f.0.1 final.1 final.0 f.2).back all_have in
      let typed_is : f.1.head.params ≡ typed = all_typed aliases params typed f.1.head.params are f.1.heads.params_are in
      let result_is : f.1.head.result ≡ result = ok_same (sym f.1.heads.result_is ∙ written) in
      let here : Here program = record { scope = typed; expected = result; alone = false; before = flat_map item_names item.before; met = d.met; named = d.named } in
      let runs = subst (λ (k : HlType). Ran s e typed k K6 d.met f.1.value) result_is (subst (λ (l : List TypedName). Ran s e l f.1.head.result K6 d.met f.1.value) typed_is f.1.runs) in
      subst (λ (l : List Signature). RunsAt (record { aliases = aliases; functions = l; in_main = is_main name.text; scope = typed; expected = result; stands_alone = false; witnesses = flat_map item_names item.before }) e.form e.span) d.are
      (runs_at HasType s e here f.1.value runs (subst (Every HasType) (sym (ap (λ (x : TypedFunction × List TypedName). x.1) f.1.is)) after))

  pub occurs_runs : (at : Place) (form : ExprForm) (span : Span) → Occurs program at form span → RunsAt at form span
  occurs_runs _ _ _ (occurs.body name params text e span aliases signatures typed result item are written) = body_runs name params text e span aliases signatures typed result item are written
  occurs_runs _ _ _ (occurs.part at form span before after e kinds more kind parent has long) =
      let r = occurs_runs at form span parent in
      let back = sym r.place_is in
      subst (λ (p : Place). RunsAt (inside p kind (flat_map expr_names before)) e.form e.span) r.place_is
      (part_runs HasType (setting r.aliases r.functions r.in_main) span r.here form (subst (λ (p : Place). Occurs program p form span) back parent) before after e kinds more kind
      (subst (λ (p : Place). HasParts p form (before ++ e ∷ after) (kinds ++ kind ∷ more)) back has) long r.found r.runs r.kept)
  occurs_runs _ _ _ (occurs.value at before after pattern text e stands last span scope kind parent leaves written) =
      let whole = before ++ statements.Let pattern text e stands ∷ after in
      let r = occurs_runs at (exprs.Block whole last) span parent in
      let back = sym r.place_is in
      subst (λ (p : Place). RunsAt (inside (with_scope p scope) kind (flat_map statement_names before)) e.form e.span) r.place_is
      (value_runs (setting r.aliases r.functions r.in_main) HasType r.here before after pattern text e stands last span scope kind r.found (subst (λ (p : Place). Occurs program p (exprs.Block whole last) span) back parent)
      (subst (λ (p : Place). Leaves p.aliases p.scope before scope) back leaves) (subst (λ (p : Place). walk p.aliases text ≡ Ok kind) back written) r.runs r.kept)
  occurs_runs _ _ _ (occurs.statement at before after e last span scope parent leaves) =
      let whole = before ++ statements.Plain e ∷ after in
      let r = occurs_runs at (exprs.Block whole last) span parent in
      let back = sym r.place_is in
      subst (λ (p : Place). RunsAt (alone (with_scope p scope) (flat_map statement_names before)) e.form e.span) r.place_is
      (statement_runs (setting r.aliases r.functions r.in_main) HasType r.here before after e last span scope r.found (subst (λ (p : Place). Occurs program p (exprs.Block whole last) span) back parent)
      (subst (λ (p : Place). Leaves p.aliases p.scope before scope) back leaves) r.runs r.kept)
  occurs_runs _ _ _ (occurs.last at before e span scope parent leaves) =
      let r = occurs_runs at (exprs.Block before (Some e)) span parent in
      let back = sym r.place_is in
      subst (λ (p : Place). RunsAt (inside (with_scope p scope) p.expected (flat_map statement_names before)) e.form e.span) r.place_is
      (last_runs (setting r.aliases r.functions r.in_main) HasType r.here before e span scope r.found (subst (λ (p : Place). Occurs program p (exprs.Block before (Some e)) span) back parent)
      (subst (λ (p : Place). Leaves p.aliases p.scope before scope) back leaves) r.runs r.kept)
  occurs_runs _ _ _ (occurs.scrutinee at e one two span first second first_bound second_bound parent fit first_is second_is) =
      let r = occurs_runs at (exprs.Match e (one ∷ two ∷ [])) span parent in
      let back = sym r.place_is in
      subst (λ (p : Place). RunsAt (inside p (matched_type first second) []) e.form e.span) r.place_is
      (scrutinee_runs (setting r.aliases r.functions r.in_main) HasType r.here e one two span first second first_bound second_bound r.found (subst (λ (p : Place). side_walk p.aliases one.side ≡ Ok (first, first_bound)) back first_is)
      (subst (λ (p : Place). side_walk p.aliases two.side ≡ Ok (second, second_bound)) back second_is) r.runs r.kept)
  occurs_runs _ _ _ (occurs.arm at e before after one span side bound parent is) =
      let r = occurs_runs at (exprs.Match e (before ++ one ∷ after)) span parent in
      let back = sym r.place_is in
      subst (λ (p : Place). RunsAt (inside (with_scope p (bound ++ p.scope)) p.expected (expr_names e ++ flat_map arm_names before)) one.body.form one.body.span) r.place_is
      (arm_runs (setting r.aliases r.functions r.in_main) HasType r.here e before after one span side bound r.found (subst (λ (p : Place). Occurs program p (exprs.Match e (before ++ one ∷ after)) span) back parent)
      (subst (λ (p : Place). side_walk p.aliases one.side ≡ Ok (side, bound)) back is) r.runs r.kept)
