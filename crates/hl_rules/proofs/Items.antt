-- Items and programs: what their walk answers is broken there.
use Rattle.std.proofs.Common.{◌≡◌, ◌≢◌, ◌+◌, ℕ, Bool, true, false, not, ◌||◌, List, [], ◌∷◌, ◌++◌, length, map, flat_map, bytes_eq, Option, Some, None, Result, Ok, Err, refl, sym, ap, ◌∙◌, subst, append_assoc, append-nil, arith, length-append}
use Rattle.std.proofs.lemmas.List.{map-append}
use Rattle.hl_syntax.specs.declared.kinds.HlType.{HlType}
use Rattle.hl_syntax.specs.declared.kinds.TypedName.{TypedName}
use Rattle.hl_syntax.specs.declared.rules.Rule.TheVariants.{K1, K5, K6, K20, K21, K24}
use Rattle.hl_syntax.specs.declared.token.Mark.{Mark}
use Rattle.hl_syntax.specs.declared.token.Span.{Span}
use Rattle.hl_syntax.specs.declared.tree.Expr.{Expr}
use Rattle.hl_syntax.specs.declared.tree.Item.{Item}
use Rattle.hl_syntax.specs.declared.tree.Item.TheVariants as items
use Rattle.hl_syntax.specs.declared.tree.Param.{Param}
use Rattle.hl_syntax.specs.declared.tree.TypeText.{TypeText}
use Rattle.hl_data.specs.declared.typed.TypedFunction.{TypedFunction}
use Rattle.hl_data.specs.declared.value.Entry.{Entry}
use Rattle.simplicityhl.specs.Grammar.{is_among}
use Rattle.simplicityhl.specs.Written.{Broken, breaks_rule, walk}
use Rattle.hl_rules.specs.Before.{Signature, AreTyped, no_param, one_more, Declare, nothing, an_alias, a_function, Holds, has_signature}
use Rattle.hl_rules.specs.Breaks as breaks
use Rattle.hl_rules.specs.Breaks.{Breaks}
use Rattle.hl_rules.specs.Declared.{Head, alias_walk, has_function, head_walk, is_empty, may_be, param_walk, params_walk, result_walk}
use Rattle.hl_rules.specs.Exprs.{expr_walk}
use Rattle.hl_rules.specs.Names.{is_reserved, alias_words, function_words, variable_words}
use Rattle.hl_rules.specs.Occurs as occurs
use Rattle.hl_rules.specs.Written as written
use Rattle.hl_rules.specs.Places.{has_name, is_main}
use Rattle.hl_rules.specs.Programs.{Known, checked, checked_of, function_walk, item_walk, items_walk, program_walk}
use Rattle.hl_rules.specs.Same.{same_type, unit_type}
use Rattle.hl_rules.specs.Witnesses.{Names, expr_names, item_names}
use Rattle.hl_rules.proofs.Bodies.{expr_fine}
use Rattle.hl_rules.proofs.Fine.{Fine, then_fine, after_needs, body_needs, body_step, fine_is}
use Rattle.hl_rules.proofs.Here.{Setting, Met, ◌⊙◌, Meets, nothing_met, signature_of}
use Rattle.hl_rules.proofs.Leaves.{false_not, not_false}
use Rattle.hl_rules.proofs.Names.{names_of, has_among, named_more, flat_more}
use Rattle.hl_rules.proofs.Types.{type_fine, Any}

has_same : (functions : List TypedFunction) (name : List ℕ) → has_function functions name ≡ has_signature (map signature_of functions) name
has_same [] name = refl
has_same (f ∷ functions) name = ap (λ b. bytes_eq name f.name || b) (has_same functions name)

typed_long : (aliases : List TypedName) (params : List Param) (typed : List TypedName) → AreTyped aliases params typed → length params ≡ length typed
typed_long aliases _ _ no_param = refl
typed_long aliases _ _ (one_more params typed param kind before is) =
    length-append params (param ∷ []) ∙ ap (λ n. n + 1) (typed_long aliases params typed before) ∙ sym (length-append typed (record { name = param.name.text; kind = kind } ∷ []))

abbrev param_names : List Param → Names
param_names params = map (λ p. p.name.text) params

-- no parameter is written where none is typed
some_params : (aliases : List TypedName) (params : List Param) (typed : List TypedName) → AreTyped aliases params typed → is_empty typed ≡ false → params ≢ []
some_params aliases params [] are none is = absurd (cc)
some_params aliases params (one ∷ typed) are none is = let long = typed_long aliases params (one ∷ typed) are in let e : length params ≡ 0 = ap length is in absurd (omega arith)

module _ (program : List Item) (asked : List ℕ) (entries : List Entry) (edition end : ℕ) where
  abbrev Bad : Broken → Type 0
  Bad = Breaks program asked entries edition end

  abbrev signatures : Known → List Signature
  signatures known = map signature_of known.functions

  -- an alias
  alias_fine : (name : Mark) (text : TypeText) (span : Span) (known : Known) → Holds program (items.Alias name text span) known.aliases (signatures known) →
      Fine Bad (λ next. (kind : HlType) × (walk known.aliases text ≡ Ok kind) × (next ≡ known.aliases ++ record { name = name.text; kind = kind } ∷ [])) (alias_walk known.aliases name text)
  alias_fine name text span known holds =
      let Q : List TypedName → Type 0 = λ next. (kind : HlType) × (walk known.aliases text ≡ Ok kind) × (next ≡ known.aliases ++ record { name = name.text; kind = kind } ∷ []) in
      after_needs Bad Q (not (is_reserved alias_words name.text)) K24 name.span _ (λ e. breaks.k24_alias name text span known.aliases (signatures known) holds (not_false _ e))
      (λ _. after_needs Bad Q (not (has_name known.aliases name.text)) K1 name.span _ (λ e. breaks.k1_alias name text span known.aliases (signatures known) holds (not_false _ e))
      (λ _. then_fine Bad (λ kind. (walk known.aliases text ≡ Ok kind) × Any kind) Q (walk known.aliases text) _
      (fine_is Bad Any (walk known.aliases text) (type_fine program asked entries edition end known.aliases text (written.of_alias name text span (signatures known) holds)))
      (λ kind found. (kind, found.0, refl))))

  module _ (name : Mark) (text : Option TypeText) (body : Expr) (span : Span) (aliases : List TypedName) (functions : List Signature) where
    -- parameters from a place on
    params_fine : (whole : List Param) → Holds program (items.Function name whole text body span) aliases functions → (before left : List Param) → whole ≡ before ++ left → (typed : List TypedName) → AreTyped aliases before typed →
        names_of typed ≡ param_names before → Fine Bad (λ all. AreTyped aliases whole all) (params_walk aliases left typed)
    params_fine whole holds before [] is typed are named = subst (λ (ps : List Param). AreTyped aliases ps typed) (sym (is ∙ append-nil before)) are
    params_fine whole holds before (param ∷ params) is typed are named =
        let holds' = subst (λ (ps : List Param). Holds program (items.Function name ps text body span) aliases functions) is holds in
        let Q : List TypedName → Type 0 = λ next. AreTyped aliases (before ++ param ∷ []) next × (names_of next ≡ param_names (before ++ param ∷ [])) in
        then_fine Bad Q (λ all. AreTyped aliases whole all) (param_walk aliases param typed) _
        (after_needs Bad Q (not (is_reserved variable_words param.name.text)) K24 param.name.span _ (λ e. breaks.k24_param name before params param text body span aliases functions holds' (not_false _ e))
        (λ _. after_needs Bad Q (not (has_name typed param.name.text)) K5 param.name.span _
        (λ e. breaks.k5_param name before params param text body span aliases functions holds' (ap (λ ns. is_among ns param.name.text) (sym named) ∙ sym (has_among typed param.name.text) ∙ not_false _ e))
        (λ _. then_fine Bad (λ kind. (walk aliases param.kind ≡ Ok kind) × Any kind) Q (walk aliases param.kind) _
        (fine_is Bad Any (walk aliases param.kind) (type_fine program asked entries edition end aliases param.kind (written.of_param name before params param text body span functions holds')))
        (λ kind found. (one_more before typed param kind are found.0, named_more typed (record { name = param.name.text; kind = kind }) (param_names before) named ∙ sym (map-append (λ (p : Param). p.name.text) before (param ∷ [])))))))
        (λ next more. params_fine whole holds (before ++ param ∷ []) params (is ∙ sym (append_assoc before (param ∷ []) params)) next more.0 more.1)

  result_fine : (name : Mark) (params : List Param) (text : Option TypeText) (body : Expr) (span : Span) (aliases : List TypedName) (functions : List Signature) → Holds program (items.Function name params text body span) aliases functions →
      Fine Bad Any (result_walk aliases text)
  result_fine name params None body span aliases functions holds = tt
  result_fine name params (Some text) body span aliases functions holds = type_fine program asked entries edition end aliases text (written.of_result name params text body span functions holds)

  -- what the head of a function gives
  abbrev HasHead : List TypedName → List Param → Option TypeText → Head → Type 0
  HasHead aliases params text head = AreTyped aliases params head.params × (result_walk aliases text ≡ Ok head.result)

  module _ (name : Mark) (params : List Param) (text : Option TypeText) (body : Expr) (span : Span) (known : Known) (holds : Holds program (items.Function name params text body span) known.aliases (signatures known)) where
    not_main : (typed : List TypedName) (result : HlType) → AreTyped known.aliases params typed → result_walk known.aliases text ≡ Ok result → may_be name.text typed result ≡ false → Bad (breaks_rule K21 name.span)
    not_main typed result are is wrong = go (is_main name.text) refl (is_empty typed) refl (same_type unit_type result) refl
      where
        go : (main : Bool) → is_main name.text ≡ main → (empty : Bool) → is_empty typed ≡ empty → (same : Bool) → same_type unit_type result ≡ same → Bad (breaks_rule K21 name.span)
        go false m empty e same s = let w = rw m at wrong in absurd (cc)
        go true m false e same s = breaks.k21_params name params text body span known.aliases (signatures known) holds m (some_params known.aliases params typed are e)
        go true m true e false s = breaks.k21_result name params text body span known.aliases (signatures known) result holds m is (false_not _ s)
        go true m true e true s = let w = rw (m, e, s) at wrong in absurd (cc)

    head_fine : Fine Bad (HasHead known.aliases params text) (head_walk known.aliases known.functions name params text)
    head_fine =
        let Q : Head → Type 0 = HasHead known.aliases params text in
        after_needs Bad Q (not (is_reserved function_words name.text)) K24 name.span _ (λ e. breaks.k24_function name params text body span known.aliases (signatures known) holds (not_false _ e))
        (λ _. after_needs Bad Q (not (has_function known.functions name.text)) K1 name.span _
        (λ e. breaks.k1_function name params text body span known.aliases (signatures known) holds (sym (has_same known.functions name.text) ∙ not_false _ e))
        (λ _. then_fine Bad (λ all. AreTyped known.aliases params all) Q (params_walk known.aliases params []) _ (params_fine name text body span known.aliases (signatures known) params holds [] params refl [] no_param refl)
        (λ typed are. then_fine Bad (λ result. (result_walk known.aliases text ≡ Ok result) × Any result) Q (result_walk known.aliases text) _
        (fine_is Bad Any (result_walk known.aliases text) (result_fine name params text body span known.aliases (signatures known) holds))
        (λ result found. after_needs Bad Q (may_be name.text typed result) K21 name.span _ (not_main typed result are found.0) (λ _. (are, found.0))))))

  -- an item after others, with what is known after it
  abbrev ItemEnds : List Item → Item → Known × List TypedName → Type 0
  ItemEnds before item found = Declare (before ++ item ∷ []) found.0.aliases (signatures found.0) × Met program (flat_map item_names (before ++ item ∷ [])) found.1

  item_fine : (before after : List Item) (item : Item) → program ≡ before ++ item ∷ after → (known : Known) → Declare before known.aliases (signatures known) → (met : List TypedName) → Met program (flat_map item_names before) met →
      Fine Bad (ItemEnds before item) (item_walk entries edition known item met)
  item_fine before after (items.Alias name text span) is known declared met named =
      body_step Bad (λ next. (kind : HlType) × (walk known.aliases text ≡ Ok kind) × (next ≡ known.aliases ++ record { name = name.text; kind = kind } ∷ [])) (ItemEnds before (items.Alias name text span)) (alias_walk known.aliases name text) met _
      (alias_fine name text span known (record { before = before; after = after; is = is; declared = declared }))
      (λ aliases _ found. (
        subst (λ (names : List TypedName). Declare (before ++ items.Alias name text span ∷ []) names (signatures known)) (sym found.2) (an_alias before known.aliases (signatures known) name text span found.0 declared found.1),
        named ⊙ sym (append-nil _) ∙ flat_more item_names before (items.Alias name text span) [],
      ))
  item_fine before after (items.Function name params text body span) is known declared met named =
      let item = items.Function name params text body span in
      let holds : Holds program item known.aliases (signatures known) = record { before = before; after = after; is = is; declared = declared } in
      let s : Setting = record { program = program; asked = asked; entries = entries; end = end; aliases = known.aliases; functions = known.functions; in_main = is_main name.text; edition = edition } in
      let walked : TypedFunction × List TypedName → Type 0 = λ found. Declare (before ++ item ∷ []) known.aliases (map signature_of (known.functions ++ found.0 ∷ [])) × Met program (flat_map item_names (before ++ item ∷ [])) found.1 in
      then_fine Bad walked (ItemEnds before item) (function_walk entries edition known name params text body met) _
      (body_step Bad (HasHead known.aliases params text) walked (head_walk known.aliases known.functions name params text) met _ (head_fine name params text body span known holds)
      (λ head _ has. then_fine Bad (Meets program (flat_map item_names before ++ expr_names body)) walked (expr_walk (record { aliases = known.aliases; functions = known.functions; entries = entries; in_main = is_main name.text; edition = edition }) body head.params head.result K6 met) _
      (expr_fine s body (record { scope = head.params; expected = head.result; alone = false; before = flat_map item_names before; met = met; named = named })
      (occurs.body name params text body span known.aliases (signatures known) head.params head.result holds has.0 has.1))
      (λ found ends. (
        subst (λ (fs : List Signature). Declare (before ++ item ∷ []) known.aliases fs) (sym (map-append signature_of known.functions (record { name = name.text; params = head.params; result = head.result; body = found.0 } ∷ [])))
            (a_function before known.aliases (signatures known) name params text body span head.params head.result declared has.0 has.1),
        ends ⊙ flat_more item_names before item [],
      ))))
      (λ found ends. ends)

  items_fine : (before left : List Item) → program ≡ before ++ left → (known : Known) → Declare before known.aliases (signatures known) → (met : List TypedName) → Met program (flat_map item_names before) met →
      Fine Bad (λ found. Declare program found.0.aliases (signatures found.0)) (items_walk entries edition known left met)
  items_fine before [] is known declared met named = subst (λ (items : List Item). Declare items known.aliases (signatures known)) (sym (is ∙ append-nil before)) declared
  items_fine before (item ∷ left) is known declared met named =
      then_fine Bad (ItemEnds before item) (λ found. Declare program found.0.aliases (signatures found.0)) (item_walk entries edition known item met) _ (item_fine before left item is known declared met named)
      (λ next ends. items_fine (before ++ item ∷ []) left (is ∙ sym (append_assoc before (item ∷ []) left)) next.0 ends.0 next.1 ends.1)

  program_fine : Fine Bad Any (program_walk program asked entries edition end [])
  program_fine =
      then_fine Bad (λ found. Declare program found.0.aliases (signatures found.0)) Any (items_walk entries edition (record { aliases = []; functions = [] }) program []) _ (items_fine [] program refl (record { aliases = []; functions = [] }) nothing [] (nothing_met program))
      (λ found declared. body_needs Bad Any (has_function found.0.functions asked) K20 (record { start = end; end = end }) found.1 _
      (λ e. breaks.k20 found.0.aliases (signatures found.0) declared (false_not _ (sym (has_same found.0.functions asked) ∙ e))) (λ _. tt))

  refused : (r : Result (List TypedFunction × List TypedName) Broken) (broken : Broken) → Fine Bad Any r → checked_of edition r ≡ Err broken → Bad broken
  refused (Ok found) broken h e = absurd (cc)
  refused (Err other) broken h e = let same : other ≡ broken = cc in subst Bad same h

  pub answered : (broken : Broken) → checked program asked entries edition end ≡ Err broken → Bad broken
  unfolding checked
  answered broken e = refused (program_walk program asked entries edition end []) broken program_fine e
