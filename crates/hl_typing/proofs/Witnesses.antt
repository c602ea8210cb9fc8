-- The witnesses of a program that the walk answers are those that the text names.
use Rattle.std.proofs.Common.{◌≡◌, ℕ, Bool, true, nat_eq, if◌then◌else◌, false, List, [], ◌∷◌, ◌++◌, map, flat_map, Result, Ok, Err, refl, sym, ap, ◌∙◌, subst, append_assoc, append-nil}
use Rattle.std.proofs.lemmas.List.{map-append}
use Rattle.hl_data.specs.declared.typed.TypedFunction.{TypedFunction}
use Rattle.hl_data.specs.declared.value.Entry.{Entry}
use Rattle.hl_syntax.specs.declared.kinds.TypedName.{TypedName}
use Rattle.hl_syntax.specs.declared.rules.Rule.TheVariants.{K20}
use Rattle.hl_syntax.specs.declared.tree.Item.{Item}
use Rattle.hl_syntax.specs.declared.tree.Item.TheVariants as items
use Rattle.simplicityhl.specs.Written.{Broken}
use Rattle.hl_rules.specs.Before.{Declare, Holds, nothing, an_alias, a_function}
use Rattle.hl_rules.specs.Declared.{has_function}
use Rattle.hl_rules.specs.Occurs as occurs
use Rattle.hl_rules.specs.Places.{has_name, is_main}
use Rattle.hl_rules.specs.Programs as programs
use Rattle.hl_rules.specs.Programs.{Known, Checked, checked, checked_of, program_walk}
use Rattle.hl_rules.specs.Witnesses.{Names, expr_names, item_names, first_names, first_witnesses, listed_names, listed_witnesses}
use Rattle.hl_rules.proofs.Here.{Here, Met, ◌⊙◌, nothing_met, signature_of}
use Rattle.hl_rules.proofs.Names.{names_of, has_among, flat_more}
use Rattle.hl_typing.specs.Laws.{AnsweredNamesWitnesses}
use Rattle.hl_typing.proofs.Everywhere.{setting, known_as, function_first, alias_first}
use Rattle.hl_typing.proofs.Heads.{typed_by_walk}
use Rattle.hl_typing.proofs.Reached.{meets}
use Rattle.hl_typing.proofs.Steps.{ran, ok_same}
use Rattle.hl_typing.proofs.There.{needs_there}

module _ (program : List Item) (asked : List ℕ) (entries : List Entry) (edition end : ℕ) (final : Known × List TypedName) (answers : programs.items_walk entries edition (record { aliases = []; functions = [] }) program [] ≡ Ok final) where
  all_named : (before left : List Item) → program ≡ before ++ left → (aliases : List TypedName) (functions : List TypedFunction) → Declare before aliases (map signature_of functions) → (met : List TypedName) → Met program (flat_map item_names before) met →
      programs.items_walk entries edition (known_as program asked entries edition end final answers aliases functions) left met ≡ Ok final → Met program (flat_map item_names program) final.1
  all_named before [] is aliases functions declared met named w =
      subst (λ (x : Known × List TypedName). Met program (flat_map item_names program) x.1) (ok_same w) (named ⊙ ap (flat_map item_names) (sym (is ∙ append-nil before)))
  all_named before (items.Alias name text span ∷ left) is aliases functions declared met named w =
      let item = items.Alias name text span in
      let f = alias_first program asked entries edition end final answers aliases functions name text span left met w in
      all_named (before ++ item ∷ []) left (is ∙ sym (append_assoc before (item ∷ []) left)) f.0 functions
      (subst (λ (l : List TypedName). Declare (before ++ item ∷ []) l (map signature_of functions)) f.1.is (an_alias before aliases (map signature_of functions) name text span f.1.kind declared f.1.written)) met
      (named ⊙ sym (append-nil _) ∙ flat_more item_names before item []) f.2
  all_named before (items.Function name params text body span ∷ left) is aliases functions declared met named w =
      let item = items.Function name params text body span in
      let f = function_first program asked entries edition end final answers aliases functions name params text body span left met w in
      let s = setting program asked entries edition end final answers aliases functions (is_main name.text) in
      let are = typed_by_walk aliases params f.1.head.params f.1.heads.params_are in
      let holds : Holds program item aliases (map signature_of functions) = record { before = before; after = left; is = is; declared = declared } in
      let here : Here program = record { scope = f.1.head.params; expected = f.1.head.result; alone = false; before = flat_map item_names before; met = met; named = named } in
      let after = meets s body here (occurs.body name params text body span aliases (map signature_of functions) f.1.head.params f.1.head.result holds are f.1.heads.result_is) f.1.value f.1.runs in
      let next : Declare (before ++ item ∷ []) aliases (map signature_of functions ++ record { name = name.text; params = f.1.head.params; result = f.1.head.result } ∷ []) =
      a_function before aliases (map signature_of functions) name params text body span f.1.head.params f.1.head.result declared are f.1.heads.result_is in
      let signatures_are : map signature_of functions ++ record { name = name.text; params = f.1.head.params; result = f.1.head.result } ∷ [] ≡ map signature_of (functions ++ f.0.0 ∷ []) =
      ap (λ (x : TypedFunction × List TypedName). map signature_of functions ++ signature_of x.0 ∷ []) f.1.is ∙ sym (map-append signature_of functions (f.0.0 ∷ [])) in
      all_named (before ++ item ∷ []) left (is ∙ sym (append_assoc before (item ∷ []) left)) aliases (functions ++ f.0.0 ∷ []) (subst (Declare (before ++ item ∷ []) aliases) signatures_are next) f.0.1
      (subst (Met program (flat_map item_names before ++ expr_names body)) (ap (λ (x : TypedFunction × List TypedName). x.1) f.1.is) after ⊙ flat_more item_names before item []) f.2

program_named : (program : List Item) (asked : List ℕ) (entries : List Entry) (edition end : ℕ) (found : List TypedFunction × List TypedName) → program_walk program asked entries edition end [] ≡ Ok found → names_of found.1 ≡ flat_map item_names program
program_named program asked entries edition end found h =
    let a = ran (programs.items_walk entries edition (record { aliases = []; functions = [] }) program []) _ found h in
    let c = needs_there (has_function a.from.0.functions asked) K20 (record { start = end; end = end }) a.from.1 _ found a.is in
    ap (λ (x : List TypedFunction × List TypedName). names_of x.1) (sym (ok_same c.1)) ∙ (all_named program asked entries edition end a.from a.was [] program refl [] [] nothing [] (nothing_met program) a.was).named

first_named : (before met : List TypedName) → names_of (first_witnesses before met) ≡ first_names (names_of before) (names_of met)
first_named before [] = refl
first_named before (w ∷ met) = go (has_name before w.name) refl (first_named before met) (first_named (before ++ w ∷ []) met)
  where
    go : (b : Bool) → has_name before w.name ≡ b → names_of (first_witnesses before met) ≡ first_names (names_of before) (names_of met) →
        names_of (first_witnesses (before ++ w ∷ []) met) ≡ first_names (names_of (before ++ w ∷ [])) (names_of met) → names_of (first_witnesses before (w ∷ met)) ≡ first_names (names_of before) (names_of (w ∷ met))
    go true there skip take = rw (there, sym (has_among before w.name) ∙ there) skip
    go false none skip take =
        rw (none, sym (has_among before w.name) ∙ none) (ap (λ (ns : Names). w.name ∷ ns) (take ∙ ap (λ (ns : Names). first_names ns (names_of met)) (map-append (λ (n : TypedName). n.name) before (w ∷ []))))

listed_named : (edition : ℕ) (met : List TypedName) → names_of (listed_witnesses edition met) ≡ listed_names edition (names_of met)
listed_named edition met = go (nat_eq edition 2)
  where
    go : (b : Bool) → names_of (if b then first_witnesses [] met else met) ≡ (if b then first_names [] (names_of met) else names_of met)
    go true = first_named [] met
    go false = refl

pub answered_named : AnsweredNamesWitnesses
unfolding checked
answered_named source asked entries edition end program h = walked (program_walk source asked entries edition end []) refl h
  where
    walked : (w : Result (List TypedFunction × List TypedName) Broken) → program_walk source asked entries edition end [] ≡ w → checked_of edition w ≡ Ok program → map (λ n. n.name) program.witnesses ≡ listed_names edition (flat_map item_names source)
    walked (Err other) is e = absurd (cc)
    walked (Ok found) is e = ap (λ (p : Checked). names_of p.witnesses) (sym (ok_same e)) ∙ listed_named edition found.1 ∙ ap (listed_names edition) (program_named source asked entries edition end found is)
