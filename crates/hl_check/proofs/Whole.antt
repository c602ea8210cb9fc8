-- Functions, items and programs by what they are made of.
use Rattle.std.proofs.Common.{◌≡◌, ℕ, List, [], ◌∷◌, ◌++◌, Option, refl, sym, ap, ◌∙◌, subst, Result, Ok, Err, IsErrAnd, append-nil}
use Rattle.hl_syntax.specs.declared.kinds.TypedName.{TypedName}
use Rattle.hl_syntax.specs.declared.rules.Rule.TheVariants.{K6, K20}
use Rattle.hl_syntax.specs.declared.token.Mark.{Mark}
use Rattle.hl_syntax.specs.declared.token.Span.{Span}
use Rattle.hl_syntax.specs.declared.tree.Expr.{Expr}
use Rattle.hl_syntax.specs.declared.tree.Item.{Item}
use Rattle.hl_syntax.specs.declared.tree.Item.TheVariants as items
use Rattle.hl_syntax.specs.declared.tree.Param.{Param}
use Rattle.hl_syntax.specs.declared.tree.TypeText.{TypeText}
use Rattle.hl_data.specs.declared.typed.TypedExpr.{TypedExpr}
use Rattle.hl_data.specs.declared.typed.TypedFunction.{TypedFunction}
use Rattle.hl_data.specs.declared.value.Entry.{Entry}
use Rattle.simplicityhl.specs.Written.{Broken, breaks_rule, breaks_limit, then_walk}
use Rattle.hl_rules.proofs.Items.{answered}
use Rattle.hl_rules.specs.Breaks.{Breaks}
use Rattle.hl_meaning.specs.Entries.{AreValued}
use Rattle.hl_rules.specs.Declared.{Head, alias_walk, has_function, head_walk}
use Rattle.hl_rules.specs.Exprs.{expr_walk}
use Rattle.hl_rules.specs.Places.{is_main}
use Rattle.hl_rules.specs.Programs.{Known, Checked, checked, checked_of, function_walk, item_walk, items_walk}
use Rattle.hl_rules.specs.Witnesses.{listed_witnesses}
use Rattle.hl_rules.specs.Steps as steps
use Rattle.hl_typed.specs.Typed.{BreaksNothing}
use Rattle.hl_scope.specs.Checks.{Checks, ChecksMet, ChecksAs}
use Rattle.hl_check.specs.Knowns.{alias_known}
use Rattle.hl_check.specs.Tells.{TellsBroken}
use Rattle.hl_scope.specs.declared.refusal.CheckRefusal.{CheckRefusal}
use Rattle.hl_scope.specs.declared.refusal.CheckRefusal.TheVariants as refusals
use Rattle.hl_check.proofs.Rolled.{passed}

pub bound_all : (names copies bound none : List TypedName) → bound ≡ copies ++ none → none ≡ [] → copies ≡ names → bound ≡ names
bound_all names copies bound none a b d = a ∙ rw (b, d, append-nil) refl

-- a refusal is the same whatever the view
pub refused_as : {X Y A : Type 0} (view : X → A) (other : Y → A) (w v : Result A Broken) (refusal : CheckRefusal) → w ≡ v → ChecksAs view w (Err refusal) → ChecksAs other v (Err refusal)
refused_as view other w v (refusals.Rule rule span) same h = sym same ∙ h
refused_as view other w v (refusals.Limit limit span) same h = sym same ∙ h
refused_as view other w v refusals.OutOfMemory same h = tt

-- what begins with a refused part is refused as that is
pub shows_then : {X Y A B : Type 0} (view : X → A) (other : Y → B) (w : Result A Broken) (next : A → Result B Broken) (refusal : CheckRefusal) → ChecksAs view w (Err refusal) → ChecksAs other (then_walk w next) (Err refusal)
shows_then view other w next (refusals.Rule rule span) h = rw h refl
shows_then view other w next (refusals.Limit limit span) h = rw h refl
shows_then view other w next refusals.OutOfMemory h = tt

module _ (entries : List Entry) (edition : ℕ) (known : Known) (name : Mark) (params : List Param) (text : Option TypeText) (e : Expr) (met : List TypedName) where
  abbrev pub body_walk : Head → Result (TypedExpr × List TypedName) Broken
  body_walk head = expr_walk (record { aliases = known.aliases; functions = known.functions; entries = entries; in_main = is_main name.text; edition = edition }) e head.params head.result K6 met

  abbrev function_of : Head → TypedExpr × List TypedName → Result (TypedFunction × List TypedName) Broken
  function_of head found = Ok (record { name = name.text; params = head.params; result = head.result; body = found.0 }, found.1)

  function_is : (head : Head) → head_walk known.aliases known.functions name params text ≡ Ok head → function_walk entries edition known name params text e met ≡ then_walk (body_walk head) (function_of head)
  function_is head h = rw h refl

  pub function_found : (head : Head) (found : TypedExpr) (after : List TypedName) → head_walk known.aliases known.functions name params text ≡ Ok head → body_walk head ≡ Ok (found, after) →
      function_walk entries edition known name params text e met ≡ Ok (record { name = name.text; params = head.params; result = head.result; body = found }, after)
  function_found head found after h k = function_is head h ∙ ap (λ w. then_walk w (function_of head)) k

  pub function_refused : (head : Head) (refusal : CheckRefusal) (result : Result (TypedFunction × List TypedName) CheckRefusal) → head_walk known.aliases known.functions name params text ≡ Ok head →
      Checks (body_walk head) (Err refusal) → IsErrAnd result (λ x. x ≡ refusal) → Checks (function_walk entries edition known name params text e met) result
  function_refused head refusal result h k is =
      subst (λ (w : Result (TypedFunction × List TypedName) Broken). Checks w result) (sym (function_is head h))
      (passed (λ x. x) (then_walk (body_walk head) (function_of head)) refusal result
      (shows_then (λ (x : TypedExpr × List TypedName). x) (λ (x : TypedFunction × List TypedName). x) (body_walk head) (function_of head) refusal k) is)

-- an alias that is refused
pub alias_refused : {X Y : Type 0} (view : Y → List TypedName) (other : X → Known × List TypedName) (known : Known) (name : Mark) (text : TypeText) (met : List TypedName) (refusal : CheckRefusal) (result : Result X CheckRefusal) →
    ChecksAs view (alias_walk known.aliases name text) (Err refusal) → IsErrAnd result (λ x. x ≡ refusal) → ChecksAs other (alias_known known name text met) result
alias_refused view other known name text met refusal result h k =
    let keep : List TypedName → Result (List TypedName × List TypedName) Broken = λ x. Ok (x, met) in
    let give : List TypedName × List TypedName → Result (Known × List TypedName) Broken = λ x. Ok (record { aliases = x.0; functions = known.functions }, x.1) in
    passed other (alias_known known name text met) refusal result
    (shows_then (λ (x : List TypedName × List TypedName). x) other (then_walk (alias_walk known.aliases name text) keep) give refusal
    (shows_then view (λ (x : List TypedName × List TypedName). x) (alias_walk known.aliases name text) keep refusal h)) k

-- a function after what is known
abbrev with_function : Known → TypedFunction × List TypedName → Result (Known × List TypedName) Broken
with_function known found = Ok (record { aliases = known.aliases; functions = known.functions ++ found.0 ∷ [] }, found.1)

module _ (entries : List Entry) (edition : ℕ) (known : Known) (met : List TypedName) (item : Item) (name : Mark) (params : List Param) (text : Option TypeText) (e : Expr) (span : Span) where
  pub item_found : (f : TypedFunction) (after : List TypedName) → item ≡ items.Function name params text e span → function_walk entries edition known name params text e met ≡ Ok (f, after) →
      item_walk entries edition known item met ≡ Ok (record { aliases = known.aliases; functions = known.functions ++ f ∷ [] }, after)
  item_found f after is h = ap (λ (i : Item). item_walk entries edition known i met) is ∙ ap (λ w. then_walk w (with_function known)) h

  pub item_refused : {X : Type 0} (other : X → Known × List TypedName) (refusal : CheckRefusal) (result : Result X CheckRefusal) → item ≡ items.Function name params text e span →
      Checks (function_walk entries edition known name params text e met) (Err refusal) → IsErrAnd result (λ x. x ≡ refusal) → ChecksAs other (item_walk entries edition known item met) result
  item_refused other refusal result is h k =
      subst (λ (i : Item). ChecksAs other (item_walk entries edition known i met) result) (sym is)
      (passed other (then_walk (function_walk entries edition known name params text e met) (with_function known)) refusal result
      (shows_then (λ (x : TypedFunction × List TypedName). x) other (function_walk entries edition known name params text e met) (with_function known) refusal h) k)

-- Programs.

shows_checked : {X Y : Type 0} (view : X → List TypedFunction × List TypedName) (other : Y → Checked) (edition : ℕ) (w : Result (List TypedFunction × List TypedName) Broken) (refusal : CheckRefusal) → ChecksAs view w (Err refusal) → ChecksAs other (checked_of edition w) (Err refusal)
shows_checked view other edition w (refusals.Rule rule span) h = rw h refl
shows_checked view other edition w (refusals.Limit limit span) h = rw h refl
shows_checked view other edition w refusals.OutOfMemory h = tt

module _ (program : List Item) (asked : List ℕ) (entries : List Entry) (edition end : ℕ) where
  abbrev pub all_items : Result (Known × List TypedName) Broken
  all_items = items_walk entries edition (record { aliases = []; functions = [] }) program []

  abbrev pub asked_for : List TypedFunction → Result (Unit {0}) Broken
  asked_for functions = steps.needs (has_function functions asked) K20 (record { start = end; end = end })

  abbrev keep : List TypedName → Unit {0} → Result (Unit {0} × List TypedName) Broken
  keep met x = Ok (x, met)

  abbrev give : List TypedFunction → Unit {0} × List TypedName → Result (List TypedFunction × List TypedName) Broken
  give functions x = Ok (functions, x.1)

  abbrev then_asked : Known × List TypedName → Result (List TypedFunction × List TypedName) Broken
  then_asked found = then_walk (then_walk (asked_for found.0.functions) (keep found.1)) (give found.0.functions)

  checked_is : checked program asked entries edition end ≡ checked_of edition (then_walk all_items then_asked)
  unfolding checked
  checked_is = refl

  module _ {X : Type 0} (other : X → Checked) (refusal : CheckRefusal) (result : Result X CheckRefusal) where
    pub program_refused : {Y : Type 0} (view : Y → Known × List TypedName) → ChecksAs view all_items (Err refusal) → IsErrAnd result (λ x. x ≡ refusal) → ChecksAs other (checked program asked entries edition end) result
    program_refused view h k =
        subst (λ (w : Result Checked Broken). ChecksAs other w result) (sym checked_is)
        (passed other (checked_of edition (then_walk all_items then_asked)) refusal result
        (shows_checked (λ (x : List TypedFunction × List TypedName). x) other edition (then_walk all_items then_asked) refusal (shows_then view (λ (x : List TypedFunction × List TypedName). x) all_items then_asked refusal h)) k)

    pub asked_refused : (aliases : List TypedName) (functions : List TypedFunction) (met : List TypedName) → all_items ≡ Ok (record { aliases = aliases; functions = functions }, met) → Checks (asked_for functions) (Err refusal) → IsErrAnd result (λ x. x ≡ refusal) →
        ChecksAs other (checked program asked entries edition end) result
    asked_refused aliases functions met h k is =
        subst (λ (w : Result Checked Broken). ChecksAs other w result) (sym (checked_is ∙ ap (λ (w : Result (Known × List TypedName) Broken). checked_of edition (then_walk w then_asked)) h))
        (passed other (checked_of edition (then_walk (then_walk (asked_for functions) (keep met)) (give functions))) refusal result
        (shows_checked (λ (x : List TypedFunction × List TypedName). x) other edition (then_walk (then_walk (asked_for functions) (keep met)) (give functions)) refusal
        (shows_then (λ (x : Unit {0} × List TypedName). x) (λ (x : List TypedFunction × List TypedName). x) (then_walk (asked_for functions) (keep met)) (give functions) refusal
        (shows_then (λ (x : Unit {0}). x) (λ (x : Unit {0} × List TypedName). x) (asked_for functions) (keep met) refusal k))) is)

  module _ (aliases : List TypedName) (functions : List TypedFunction) (met witnesses : List TypedName) where
    pub program_found : all_items ≡ Ok (record { aliases = aliases; functions = functions }, met) → asked_for functions ≡ Ok tt → witnesses ≡ listed_witnesses edition met →
        checked program asked entries edition end ≡ Ok (record { functions = functions; witnesses = witnesses; edition = edition })
    program_found h k listed =
        checked_is ∙ ap (λ (w : Result (Known × List TypedName) Broken). checked_of edition (then_walk w then_asked)) h
        ∙ ap (λ (w : Result (Unit {0}) Broken). checked_of edition (then_walk (then_walk w (keep met)) (give functions))) k
        ∙ ap (λ (ws : List TypedName). Ok (record { functions = functions; witnesses = ws; edition = edition })) (sym listed)

    pub breaks_nothing : all_items ≡ Ok (record { aliases = aliases; functions = functions }, met) → asked_for functions ≡ Ok tt → witnesses ≡ listed_witnesses edition met → AreValued entries →
        BreaksNothing (record { functions = functions; witnesses = witnesses; edition = edition })
    breaks_nothing h k listed valued = record { program = program; asked = asked; entries = entries; end = end; is = program_found h k listed; valued = valued }

  -- what answers as the walk does tells what is broken
  pub told_broken : (result : Result Checked CheckRefusal) → Checks (checked program asked entries edition end) result → TellsBroken (Breaks program asked entries edition end) result
  told_broken (Ok found) h = tt
  told_broken (Err (refusals.Rule rule span)) h = answered program asked entries edition end (breaks_rule rule span) h
  told_broken (Err (refusals.Limit limit span)) h = answered program asked entries edition end (breaks_limit limit span) h
  told_broken (Err refusals.OutOfMemory) h = tt
