-- Programs that the walk lets through are typed, and are the source's.
use Rattle.std.proofs.Common.{◌≡◌, ℕ, Bool, true, false, not, List, [], ◌∷◌, ◌++◌, Option, Some, None, Result, Ok, Err, refl, sym, ap, ◌∙◌, subst, IsTrue, append_assoc, append-nil}
use Rattle.std.specs.Prelude.{if◌then◌else◌}
use Rattle.std.specs.List.{All}
use Rattle.std.proofs.lemmas.List.Elements.{All-nil, All-cons}
use Rattle.hl_data.specs.declared.typed.TypedFunction.{TypedFunction}
use Rattle.hl_data.specs.declared.value.Entry.{Entry}
use Rattle.hl_syntax.specs.declared.kinds.HlType.{HlType}
use Rattle.hl_syntax.specs.declared.kinds.TypedName.{TypedName}
use Rattle.hl_syntax.specs.declared.rules.Rule.TheVariants.{K1, K5, K6, K20, K21, K24}
use Rattle.hl_syntax.specs.declared.token.Mark.{Mark}
use Rattle.hl_syntax.specs.declared.token.Span.{Span}
use Rattle.hl_syntax.specs.declared.tree.Expr.{Expr}
use Rattle.hl_syntax.specs.declared.tree.Item.{Item}
use Rattle.hl_syntax.specs.declared.tree.Item.TheVariants as items
use Rattle.hl_syntax.specs.declared.tree.Param.{Param}
use Rattle.hl_syntax.specs.declared.tree.TypeText.{TypeText}
use Rattle.simplicityhl.specs.Kinds.{IsSound}
use Rattle.simplicityhl.specs.Written.{Broken, walk, then_walk}
use Rattle.hl_rules.specs.Before.{AreTyped, no_param, one_more}
use Rattle.hl_rules.specs.Declared.{Head, alias_walk, head_walk, params_walk, param_walk, result_walk, has_function, is_empty, may_be}
use Rattle.hl_meaning.specs.Entries.{AreValued, IsValued}
use Rattle.hl_rules.specs.Exprs.{expr_walk}
use Rattle.hl_rules.specs.Names.{is_reserved, alias_words, function_words, variable_words}
use Rattle.hl_rules.specs.Places.{Context, is_main, has_name, variable_type}
use Rattle.hl_rules.specs.Programs.{Known, Checked, checked, checked_of, program_walk, function_walk, item_walk, items_walk}
use Rattle.hl_rules.specs.Same.{same_type, unit_type}
use Rattle.hl_rules.specs.Steps.{needs}
use Rattle.hl_rules.specs.Witnesses.{listed_witnesses}
use Rattle.hl_rules.specs.Walks as walks
use Rattle.hl_typed.specs.Typed.{BreaksNothing}
use Rattle.hl_typing.specs.Erased.{Erased, FormOf}
use Rattle.hl_typing.specs.Laws.{AnsweredIsTyped, AnsweredIsErased}
use Rattle.hl_typing.specs.Patterns.{Once}
use Rattle.hl_typing.specs.Programs.{witnesses_of, FunctionTyped, FunctionsTyped, no_function, one_function, ProgramTyped, ItemsErased, no_item, an_alias, a_function}
use Rattle.hl_typing.proofs.Bodies.{expr_good}
use Rattle.hl_typing.proofs.Claims.{Setting, AreSound}
use Rattle.hl_typing.proofs.Every.{Every, every_of, every_join}
use Rattle.hl_typing.proofs.Once.{once_more, not_true}
use Rattle.hl_typing.proofs.Same.{same_equal}
use Rattle.hl_typing.proofs.Sound.{walk_sound, unit_sound}
use Rattle.hl_typing.proofs.Listed.{listed_once, listed_agree}
use Rattle.hl_typing.proofs.Steps.{Apart, ran, ok_same, needs_ok}

all_from : {A : Type 0} (P : A → Type 0) (xs : List A) → Every P xs → All P xs
all_from P [] h = All-nil P
all_from P (x ∷ xs) h = All-cons P x xs h.0 (all_from P xs h.1)

one_sound : (names : List TypedName) (n : TypedName) → AreSound names → IsSound n.kind → AreSound (names ++ n ∷ [])
one_sound names n h k = every_join (λ (m : TypedName). IsSound m.kind) names (n ∷ []) h (k, tt)

-- Heads of functions.

module _ (aliases : List TypedName) (sound : AreSound aliases) where
  record ParamsHold (params : List Param) (typed : List TypedName) : Type 0 where
    are : AreTyped aliases params typed
    sounds : AreSound typed
    once : Once typed

  param_holds : (before : List Param) (met : List TypedName) (param : Param) (found : List TypedName) → ParamsHold before met → param_walk aliases param met ≡ Ok found → ParamsHold (before ++ param ∷ []) found
  param_holds before met param found m h =
      let a = ran (needs (not (is_reserved variable_words param.name.text)) K24 param.name.span) _ found h in
      let b = ran (needs (not (has_name met param.name.text)) K5 param.name.span) _ found a.is in
      let c = ran (walk aliases param.kind) _ found b.is in
      subst (ParamsHold (before ++ param ∷ [])) (ok_same c.is) (record {
        are = one_more before met param c.from m.are c.was;
        sounds = one_sound met (record { name = param.name.text; kind = c.from }) m.sounds (walk_sound aliases sound param.kind c.from c.was);
        once = once_more met (record { name = param.name.text; kind = c.from }) m.once (not_true (has_name met param.name.text) (needs_ok (not (has_name met param.name.text)) K5 param.name.span b.from b.was));
      })

  params_hold : (before params : List Param) (met found : List TypedName) → ParamsHold before met → params_walk aliases params met ≡ Ok found → ParamsHold (before ++ params) found
  params_hold before [] met found m h = subst (λ (ps : List Param). ParamsHold ps found) (sym (append-nil before)) (subst (ParamsHold before) (ok_same h) m)
  params_hold before (p ∷ params) met found m h =
      let r = ran (param_walk aliases p met) (params_walk aliases params) found h in
      subst (λ (ps : List Param). ParamsHold ps found) (append_assoc before (p ∷ []) params) (params_hold (before ++ p ∷ []) params r.from found (param_holds before met p r.from m r.was) r.is)

  result_sound : (text : Option TypeText) (k : HlType) → result_walk aliases text ≡ Ok k → IsSound k
  result_sound None k h = subst IsSound (ok_same h) unit_sound
  result_sound (Some text) k h = walk_sound aliases sound text k h

  -- what a head says, with what `main` may be
  record HeadHolds (functions : List TypedFunction) (name : List ℕ) (params : List Param) (text : Option TypeText) (head : Head) : Type 0 where
    fresh : has_function functions name ≡ false
    params_are : ParamsHold params head.params
    written : result_walk aliases text ≡ Ok head.result
    result : IsSound head.result
    main : IsTrue (is_main name) → (head.params ≡ []) × (head.result ≡ unit_type)

  empty_is : (params : List TypedName) → is_empty params ≡ true → params ≡ []
  empty_is [] h = refl
  empty_is (p ∷ params) h = absurd (cc)

  main_is : (b : Bool) (params : List TypedName) (result : HlType) → (if b then (if is_empty params then same_type unit_type result else false) else true) ≡ true → b ≡ true → (params ≡ []) × (result ≡ unit_type)
  main_is true [] result h main = (refl, sym (same_equal unit_type result h))
  main_is true (p ∷ params) result h main = absurd (cc)
  main_is false params result h main = absurd (cc)

  head_holds : (functions : List TypedFunction) (name : Mark) (params : List Param) (text : Option TypeText) (head : Head) → head_walk aliases functions name params text ≡ Ok head → HeadHolds functions name.text params text head
  head_holds functions name params text head h =
      let a = ran (needs (not (is_reserved function_words name.text)) K24 name.span) _ head h in
      let b = ran (needs (not (has_function functions name.text)) K1 name.span) _ head a.is in
      let c = ran (params_walk aliases params []) _ head b.is in
      let d = ran (result_walk aliases text) _ head c.is in
      let e = ran (needs (may_be name.text c.from d.from) K21 name.span) _ head d.is in
      subst (HeadHolds functions name.text params text) (ok_same e.is) (record {
        fresh = not_true (has_function functions name.text) (needs_ok (not (has_function functions name.text)) K1 name.span b.from b.was);
        params_are = params_hold [] params [] c.from (record { are = no_param; sounds = tt; once = tt }) c.was;
        written = d.was;
        result = result_sound text d.from d.was;
        main = main_is (is_main name.text) c.from d.from (needs_ok (may_be name.text c.from d.from) K21 name.span e.from e.was);
      })

  alias_holds : (name : Mark) (text : TypeText) (found : List TypedName) → alias_walk aliases name text ≡ Ok found →
      (kind : HlType) × (walk aliases text ≡ Ok kind) × (aliases ++ record { name = name.text; kind = kind } ∷ [] ≡ found)
  alias_holds name text found h =
      let a = ran (needs (not (is_reserved alias_words name.text)) K24 name.span) _ found h in
      let b = ran (needs (not (has_name aliases name.text)) K1 name.span) _ found a.is in
      let c = ran (walk aliases text) _ found b.is in
      (c.from, c.was, ok_same c.is)

-- Functions and items, each after those before it.

module _ (entries : List Entry) (valued : Every IsValued entries) (edition : ℕ) (witnesses : List TypedName) where
  -- a witness that is met is one of the program's, at its type
  abbrev P : TypedName → Type 0
  P n = variable_type witnesses n.name ≡ Some n.kind

  -- the types of aliases and of parameters that are known are sound
  record KnownSound (known : Known) : Type 0 where
    aliases : AreSound known.aliases
    params : Every (λ (f : TypedFunction). AreSound f.params) known.functions

  record FunctionHolds (known : Known) (body : Expr) (f : TypedFunction) : Type 0 where
    typed : FunctionTyped witnesses known.functions f
    erased : Erased known.aliases entries (FormOf f.body.form body.form)

  record FunctionGood (known : Known) (sound : AreSound known.aliases) (name : Mark) (params : List Param) (text : Option TypeText) (body : Expr) (met after : List TypedName) (f : TypedFunction) : Type 0 where
    named : f.name ≡ name.text
    head : HeadHolds known.aliases sound known.functions f.name params text (record { params = f.params; result = f.result })
    kept : Every P after → Every P met
    once : Apart edition met → Apart edition after
    holds : Every P after → FunctionHolds known body f

  abbrev setting : (known : Known) → KnownSound known → Bool → List TypedName → Setting
  setting known k in_main witnesses = record {
    context = record { aliases = known.aliases; functions = known.functions; entries = entries; in_main = in_main; edition = edition };
    witnesses = witnesses;
    aliases = k.aliases;
    entries = valued;
    functions = k.params;
  }

  given : (b : Bool) (after : List TypedName) → Every P after → IsTrue b → Every (λ (n : TypedName). variable_type (if b then witnesses else []) n.name ≡ Some n.kind) after
  given true after h main = h
  given false after h main = absurd (cc)

  function_good : (known : Known) (k : KnownSound known) (name : Mark) (params : List Param) (text : Option TypeText) (body : Expr) (met after : List TypedName) (f : TypedFunction) →
      function_walk entries edition known name params text body met ≡ Ok (f, after) → FunctionGood known k.aliases name params text body met after f
  function_good known k name params text body met after f h =
      let a = ran (then_walk (head_walk known.aliases known.functions name params text) (λ head. let pair : Head × List TypedName = (head, met) in Ok pair)) _ (f, after) h in
      let b = ran (head_walk known.aliases known.functions name params text) _ a.from a.was in
      let met_is : met ≡ a.from.1 = ap (λ p. p.1) (ok_same b.is) in
      let head_ok : head_walk known.aliases known.functions name params text ≡ Ok a.from.0 = b.was ∙ ap Ok (ap (λ p. p.0) (ok_same b.is)) in
      let head = head_holds known.aliases k.aliases known.functions name params text a.from.0 head_ok in
      let context : Context = record { aliases = known.aliases; functions = known.functions; entries = entries; in_main = is_main name.text; edition = edition } in
      let c = ran (expr_walk context body a.from.0.params a.from.0.result K6 a.from.1) _ (f, after) a.is in
      let all = expr_good (setting known k (is_main name.text) witnesses) body a.from.0.params a.from.0.result K6 head.result in
      let own = expr_good (setting known k (is_main name.text) (witnesses_of name.text witnesses)) body a.from.0.params a.from.0.result K6 head.result in
      let made : ◌≡◌ {A = TypedFunction} (record { name = name.text; params = a.from.0.params; result = a.from.0.result; body = c.from.0 }) f = ap (λ p. p.0) (ok_same c.is) in
      let after_is : c.from.1 ≡ after = ap (λ p. p.1) (ok_same c.is) in
      subst (FunctionGood known k.aliases name params text body met after) made (record {
        named = refl;
        head = head;
        kept = λ v. subst (Every P) (sym met_is) (all.kept a.from.1 c.from.1 c.from.0 c.was (subst (Every P) (sym after_is) v));
        once = λ v. subst (Apart edition) after_is (all.once a.from.1 c.from.1 c.from.0 c.was (subst (Apart edition) met_is v));
        holds = λ v.
            let part = own.holds a.from.1 c.from.1 c.from.0 c.was (given (is_main name.text) c.from.1 (subst (Every P) (sym after_is) v)) in
            record {
              typed = record { once = head.params_are.once; sound = all_from (λ (p : TypedName). IsSound p.kind) a.from.0.params head.params_are.sounds; body = part.typed };
              erased = part.erased;
            };
      })

  -- what items add to what is known
  record Adds (known : Known) (program : List Item) (next : Known) : Type 0 where
    added : List TypedFunction
    is : next.functions ≡ known.functions ++ added
    erased : ItemsErased entries known.aliases added program

  record ItemsGood (known : Known) (program : List Item) (met after : List TypedName) (next : Known) : Type 0 where
    kept : Every P after → Every P met
    once : Apart edition met → Apart edition after
    typed : Every P after → FunctionsTyped witnesses known.functions → FunctionsTyped witnesses next.functions
    adds : Every P after → Adds known program next

  none_good : (known : Known) (met after : List TypedName) (next : Known) → items_walk entries edition known [] met ≡ Ok (next, after) → ItemsGood known [] met after next
  none_good known met after next h =
      let same = ok_same h in
      let met_is : met ≡ after = ap (λ p. p.1) same in
      subst (ItemsGood known [] met after) (ap (λ p. p.0) same) (record {
        kept = subst (Every P) (sym met_is);
        once = subst (Apart edition) met_is;
        typed = λ v t. t;
        adds = λ v. record { added = []; is = sym (append-nil known.functions); erased = no_item known.aliases };
      })

  abbrev with_alias : Known → Mark → HlType → Known
  with_alias known name kind = record { aliases = known.aliases ++ record { name = name.text; kind = kind } ∷ []; functions = known.functions }

  abbrev with_function : Known → TypedFunction → Known
  with_function known f = record { aliases = known.aliases; functions = known.functions ++ f ∷ [] }

  alias_then : (known : Known) (name : Mark) (text : TypeText) (span : Span) (kind : HlType) (more : List Item) (met after : List TypedName) (next : Known) → walk known.aliases text ≡ Ok kind →
      ItemsGood (with_alias known name kind) more met after next → ItemsGood known (items.Alias name text span ∷ more) met after next
  alias_then known name text span kind more met after next is rest = record {
    kept = rest.kept;
    once = rest.once;
    typed = rest.typed;
    adds = λ v. let r = rest.adds v in record { added = r.added; is = r.is; erased = an_alias known.aliases r.added name text span kind more is r.erased };
  }

  function_then : (known : Known) (k : KnownSound known) (name : Mark) (params : List Param) (text : Option TypeText) (body : Expr) (span : Span) (more : List Item) (met middle after : List TypedName) (f : TypedFunction) (next : Known) →
      FunctionGood known k.aliases name params text body met middle f → ItemsGood (with_function known f) more middle after next → ItemsGood known (items.Function name params text body span ∷ more) met after next
  function_then known k name params text body span more met middle after f next good rest = record {
    kept = λ v. good.kept (rest.kept v);
    once = λ v. rest.once (good.once v);
    typed = λ v t. rest.typed v (one_function known.functions f t (good.holds (rest.kept v)).typed good.head.fresh good.head.main);
    adds = λ v.
        let r = rest.adds v in
        record {
          added = f ∷ r.added;
          is = r.is ∙ append_assoc known.functions (f ∷ []) r.added;
          erased = a_function known.aliases f r.added name params text body span more good.named good.head.params_are.are good.head.written (good.holds (rest.kept v)).erased r.erased;
        };
  }

  items_good : (known : Known) (k : KnownSound known) (program : List Item) (met after : List TypedName) (next : Known) → items_walk entries edition known program met ≡ Ok (next, after) → ItemsGood known program met after next
  items_good known k [] met after next h = none_good known met after next h
  items_good known k (items.Alias name text span ∷ more) met after next h =
      let a = ran (item_walk entries edition known (items.Alias name text span) met) _ (next, after) h in
      let b = ran (then_walk (alias_walk known.aliases name text) (λ aliases. let pair : List TypedName × List TypedName = (aliases, met) in Ok pair)) _ a.from a.was in
      let c = ran (alias_walk known.aliases name text) _ b.from b.was in
      let found = alias_holds known.aliases k.aliases name text c.from c.was in
      let from_is : ◌≡◌ {A = Known × List TypedName} (with_alias known name found.0, met) a.from =
      ap (λ (names : List TypedName). let n : Known × List TypedName = (record { aliases = names; functions = known.functions }, met) in n) found.2
      ∙ ap (λ (p : List TypedName × List TypedName). let n : Known × List TypedName = (record { aliases = p.0; functions = known.functions }, p.1) in n) (ok_same c.is) ∙ ok_same b.is in
      let sound : KnownSound (with_alias known name found.0) = record {
        aliases = one_sound known.aliases (record { name = name.text; kind = found.0 }) k.aliases (walk_sound known.aliases k.aliases text found.0 found.1);
        params = k.params;
      } in
      alias_then known name text span found.0 more met after next found.1
      (items_good (with_alias known name found.0) sound more met after next (ap (λ (p : Known × List TypedName). items_walk entries edition p.0 more p.1) from_is ∙ a.is))
  items_good known k (items.Function name params text body span ∷ more) met after next h =
      let a = ran (item_walk entries edition known (items.Function name params text body span) met) _ (next, after) h in
      let b = ran (function_walk entries edition known name params text body met) _ a.from a.was in
      let good = function_good known k name params text body met b.from.1 b.from.0 b.was in
      let from_is : ◌≡◌ {A = Known × List TypedName} (with_function known b.from.0, b.from.1) a.from = ok_same b.is in
      let sound : KnownSound (with_function known b.from.0) = record {
        aliases = k.aliases;
        params = every_join (λ (g : TypedFunction). AreSound g.params) known.functions (b.from.0 ∷ []) k.params (good.head.params_are.sounds, tt);
      } in
      function_then known k name params text body span more met b.from.1 after b.from.0 next good
      (items_good (with_function known b.from.0) sound more b.from.1 after next (ap (λ (p : Known × List TypedName). items_walk entries edition p.0 more p.1) from_is ∙ a.is))

-- Whole programs.

abbrev nothing_known : Known
nothing_known = record { aliases = []; functions = [] }

record ProgramHolds (entries : List Entry) (source : List Item) (program : Checked) : Type 0 where
  typed : ProgramTyped program
  erased : ItemsErased entries [] program.functions source

program_holds : (source : List Item) (asked : List ℕ) (entries : List Entry) (edition end : ℕ) (functions : List TypedFunction) (met : List TypedName) → Every IsValued entries →
    program_walk source asked entries edition end [] ≡ Ok (functions, met) → ProgramHolds entries source (record { functions = functions; witnesses = listed_witnesses edition met; edition = edition })
program_holds source asked entries edition end functions met valued h =
    let a = ran (items_walk entries edition nothing_known source []) _ (functions, met) h in
    let b = ran (walks.needs (has_function a.from.0.functions asked) K20 (record { start = end; end = end }) a.from.1) _ (functions, met) a.is in
    let c = ran (needs (has_function a.from.0.functions asked) K20 (record { start = end; end = end })) _ b.from b.was in
    let found_is : ◌≡◌ {A = List TypedFunction × List TypedName} (a.from.0.functions, a.from.1) (functions, met) =
    ap (λ (p : Unit {0} × List TypedName). let n : List TypedFunction × List TypedName = (a.from.0.functions, p.1) in n) (ok_same c.is) ∙ ok_same b.is in
    let good = items_good entries valued edition (listed_witnesses edition a.from.1) nothing_known (record { aliases = tt; params = tt }) source [] a.from.1 a.from.0 a.was in
    let apart = good.once (record { once = λ _. tt; agree = tt }) in
    let all = listed_agree edition a.from.1 a.from.1 apart.agree in
    let adds = good.adds all in
    subst (λ (p : List TypedFunction × List TypedName). ProgramHolds entries source (record { functions = p.0; witnesses = listed_witnesses edition p.1; edition = edition })) found_is (record {
      typed = record { functions = good.typed all no_function; once = listed_once edition a.from.1 apart };
      erased = subst (λ (fs : List TypedFunction). ItemsErased entries [] fs source) (sym adds.is) adds.erased;
    })

checked_holds : (source : List Item) (asked : List ℕ) (entries : List Entry) (edition end : ℕ) (program : Checked) → AreValued entries → checked source asked entries edition end ≡ Ok program → ProgramHolds entries source program
unfolding checked
checked_holds source asked entries edition end program valued h = walked (program_walk source asked entries edition end []) refl h
  where
    walked : (w : Result (List TypedFunction × List TypedName) Broken) → program_walk source asked entries edition end [] ≡ w → checked_of edition w ≡ Ok program → ProgramHolds entries source program
    walked (Err broken) is e = absurd (cc)
    walked (Ok found) is e = subst (ProgramHolds entries source) (ok_same e) (program_holds source asked entries edition end found.0 found.1 (every_of IsValued entries valued) is)

pub answered_typed : AnsweredIsTyped
answered_typed source asked entries edition end program valued h = (checked_holds source asked entries edition end program valued h).typed

pub answered_erased : AnsweredIsErased
answered_erased source asked entries edition end program valued h = (checked_holds source asked entries edition end program valued h).erased

pub unbroken_typed : (program : Checked) → BreaksNothing program → ProgramTyped program
unbroken_typed program h = answered_typed h.program h.asked h.entries program.edition h.end program h.valued h.is
