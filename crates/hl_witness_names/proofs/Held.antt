-- The witnesses of a program that the walk answers are those that its `main` holds.
use Rattle.std.proofs.Common.{◌≡◌, ℕ, Bool, true, false, ◌||◌, cond, List, [], ◌∷◌, ◌++◌, map, flat_map, find, nat_eq, bytes_eq, Option, Some, None, Ok, IsTrue, IsPermutation, Result, Err, length, zero, suc, arith, refl, sym, ap, ◌∙◌, subst, append-nil}
use Rattle.std.proofs.lemmas.List.Concat.{flat_map-append}
use Rattle.std.proofs.lemmas.List.Sorted.{IsPermutation-refl, length_permutation}
use Rattle.std.proofs.lemmas.Slice.Eq.{bytes_eq-Decides}
use Rattle.hl_data.specs.declared.typed.TypedFunction.{TypedFunction}
use Rattle.hl_data.specs.declared.value.Entry.{Entry}
use Rattle.hl_syntax.specs.declared.kinds.TypedName.{TypedName}
use Rattle.hl_syntax.specs.declared.tree.Item.{Item}
use Rattle.hl_syntax.specs.declared.tree.Item.TheVariants as items
use Rattle.simplicityhl.specs.Written.{Broken}
use Rattle.hl_rules.specs.Declared.{has_function}
use Rattle.hl_rules.specs.Names.{main_name}
use Rattle.hl_rules.specs.Places.{is_main}
use Rattle.hl_rules.specs.Programs.{Checked, checked, checked_of, program_walk}
use Rattle.hl_rules.specs.Witnesses.{Names, item_names, first_names, listed_names}
use Rattle.hl_typing.specs.Laws.{AnsweredIsErased, AnsweredIsTyped, AnsweredNamesWitnesses}
use Rattle.hl_typing.specs.Programs as programs
use Rattle.hl_typing.specs.Programs.{ItemsErased, FunctionTyped, FunctionsTyped, ProgramTyped, witnesses_of}
use Rattle.hl_typing.specs.Typing.{ExprAt}
use Rattle.hl_typing.proofs.Every.{Every, every_join, every_found}
use Rattle.hl_typing.specs.Names.{in_text, in_term, names_in, witness_names}
use Rattle.hl_witness_names.specs.Laws.{Holds, AnsweredIsHeld, listed}
use Rattle.hl_witness_names.proofs.Trees.{same, expr_same}
use Rattle.hl_witness_names.proofs.Unnamed.{unnamed}

abbrev text_names : TypedFunction → Names
text_names f = names_in in_text f.body

-- a function's names in its term are those in its text, in another order
abbrev Permuted : TypedFunction → Type 0
Permuted f = IsPermutation (names_in in_term f.body) (text_names f)

-- of the functions of a source text
record OfSource (functions : List TypedFunction) (source : List Item) : Type 0 where
  named : flat_map text_names functions ≡ flat_map item_names source
  permuted : Every Permuted functions

of_source : (entries : List Entry) (aliases : List TypedName) (functions : List TypedFunction) (source : List Item) →
    ItemsErased entries aliases functions source → OfSource functions source
of_source entries _ _ _ (programs.no_item aliases) = record { named = refl; permuted = tt }
of_source entries _ _ _ (programs.an_alias aliases functions name text span kind more written h) =
    let r = of_source entries _ functions more h in
    record { named = r.named; permuted = r.permuted }
of_source entries _ _ _ (programs.a_function aliases f functions name params text body span more is typed result tree h) =
    let r = of_source entries aliases functions more h in
    let s = expr_same f.body body (same aliases entries _ tree) in
    record {
      named = ap (λ ns. ns ++ flat_map text_names functions) s.is ∙ ap (λ ns. item_names (items.Function name params text body span) ++ ns) r.named;
      permuted = (s.permuted, r.permuted);
    }

-- the function of a name, and the first `main`
abbrev function_of : List TypedFunction → List ℕ → Option TypedFunction
function_of functions name = find (λ g. bytes_eq name g.name) functions

abbrev names_if : Option TypedFunction → Names
names_if None = []
names_if (Some f) = text_names f

-- a function that isn't `main` names no witness
abbrev Quiet : TypedFunction → Type 0
Quiet f = is_main f.name ≡ false → text_names f ≡ []

quiet : (witnesses : List TypedName) (before : List TypedFunction) (f : TypedFunction) → FunctionTyped witnesses before f → Quiet f
quiet witnesses before f h other =
    let none : witnesses_of f.name witnesses ≡ [] = ap (λ (b : Bool). cond b witnesses []) other in
    unnamed (record { functions = before; witnesses = witnesses_of f.name witnesses }) none (ExprAt f.params f.result f.body) h.body

-- a name that is among none of them
nowhere : (functions : List TypedFunction) (name : List ℕ) → has_function functions name ≡ false → function_of functions name ≡ None
nowhere [] name h = refl
nowhere (g ∷ functions) name h =
    elim (bytes_eq name g.name)
    as (λ b. (b || has_function functions name) ≡ false → cond b (Some g) (function_of functions name) ≡ None) [
      | true ↦ λ is. absurd (cc)
      | false ↦ λ is. nowhere functions name is
    ] h

-- one more function, of another name, or the first of its name
passed : (functions : List TypedFunction) (f : TypedFunction) (name : List ℕ) → bytes_eq name f.name ≡ false →
    function_of (functions ++ f ∷ []) name ≡ function_of functions name
passed [] f name h = ap (λ (b : Bool). cond b (Some f) None) h
passed (g ∷ functions) f name h = ap (λ (o : Option TypedFunction). cond (bytes_eq name g.name) (Some g) o) (passed functions f name h)

reached : (functions : List TypedFunction) (f : TypedFunction) (name : List ℕ) → bytes_eq name f.name ≡ true → has_function functions name ≡ false →
    function_of (functions ++ f ∷ []) name ≡ Some f
reached [] f name h none = ap (λ (b : Bool). cond b (Some f) None) h
reached (g ∷ functions) f name h none =
    elim (bytes_eq name g.name)
    as (λ b. (b || has_function functions name) ≡ false → cond b (Some g) (function_of (functions ++ f ∷ []) name) ≡ Some f) [
      | true ↦ λ is. absurd (cc)
      | false ↦ λ is. reached functions f name h is
    ] none

same_words : (a b : List ℕ) → bytes_eq a b ≡ true → a ≡ b
same_words a b h = (bytes_eq-Decides a b).0 h

other_words : (a b : List ℕ) → bytes_eq a b ≡ false → bytes_eq b a ≡ false
other_words a b h = elim (bytes_eq b a) as (λ x. bytes_eq b a ≡ x → x ≡ false) [
  | true ↦ λ is. sym ((bytes_eq-Decides a b).1 (sym (same_words b a is))) ∙ h
  | false ↦ λ is. refl
] refl

-- of functions that are typed, only `main` names witnesses
record OfMain (functions : List TypedFunction) : Type 0 where
  named : flat_map text_names functions ≡ names_if (function_of functions main_name)
  others : Every Quiet functions

last_named : (before : List TypedFunction) (f : TypedFunction) → Quiet f → has_function before f.name ≡ false → OfMain before →
    flat_map text_names (before ++ f ∷ []) ≡ names_if (function_of (before ++ f ∷ []) main_name)
last_named before f silent fresh r =
    let joins : flat_map text_names (before ++ f ∷ []) ≡ names_if (function_of before main_name) ++ text_names f =
    flat_map-append text_names before (f ∷ [])
    ∙ ap (λ ns. flat_map text_names before ++ ns) (append-nil (text_names f))
    ∙ ap (λ ns. ns ++ text_names f) r.named in
    elim (bytes_eq main_name f.name)
    as (λ b. bytes_eq main_name f.name ≡ b →
    flat_map text_names (before ++ f ∷ []) ≡ names_if (function_of (before ++ f ∷ []) main_name)) [
      | true ↦ λ is.
          let none : has_function before main_name ≡ false = ap (has_function before) (same_words main_name f.name is) ∙ fresh in
          joins ∙ ap (λ o. names_if o ++ text_names f) (nowhere before main_name none)
          ∙ ap names_if (sym (reached before f main_name is none))
      | false ↦ λ is.
          joins ∙ ap (λ ns. names_if (function_of before main_name) ++ ns) (silent (other_words main_name f.name is))
          ∙ append-nil _ ∙ ap names_if (sym (passed before f main_name is))
    ] refl

of_main : (witnesses : List TypedName) (functions : List TypedFunction) → FunctionsTyped witnesses functions → OfMain functions
of_main witnesses _ programs.no_function = record { named = refl; others = tt }
of_main witnesses _ (programs.one_function before f typed body fresh main) =
    let r = of_main witnesses before typed in
    let silent = quiet witnesses before f body in
    record { named = last_named before f silent fresh r; others = every_join Quiet before (f ∷ []) r.others (silent, tt) }

-- the edition of what the walk answers
edition_in : ℕ → Result Checked Broken → ℕ
edition_in edition (Ok program) = program.edition
edition_in edition (Err broken) = edition

edition_of : (edition : ℕ) (w : Result (List TypedFunction × List TypedName) Broken) (program : Checked) →
    checked_of edition w ≡ Ok program → edition ≡ program.edition
unfolding edition_in
edition_of edition (Ok found) program h = ap (edition_in edition) h
edition_of edition (Err broken) program h = absurd (cc)

edition_kept : (source : List Item) (asked : List ℕ) (entries : List Entry) (edition end : ℕ) (program : Checked) →
    checked source asked entries edition end ≡ Ok program → edition ≡ program.edition
unfolding checked
edition_kept source asked entries edition end program h = edition_of edition (program_walk source asked entries edition end []) program h

-- the names of a function in the order of an edition
main_permuted : (edition : ℕ) (f : TypedFunction) → Permuted f → IsPermutation (witness_names edition f) (listed_names edition (text_names f))
main_permuted edition f h =
    let firsts = first_names [] (text_names f) in
    elim (nat_eq edition 2) as (λ b. IsPermutation (cond b firsts (names_in in_term f.body)) (cond b firsts (text_names f))) [
      | true ↦ IsPermutation-refl firsts
      | false ↦ h
    ]

main_in_order : (edition : ℕ) (f : TypedFunction) → edition ≡ 2 → witness_names edition f ≡ listed_names edition (text_names f)
main_in_order edition f is = subst (λ (e : ℕ). witness_names e f ≡ listed_names e (text_names f)) (sym is) refl

nothing_left : (names : Names) → IsPermutation names [] → names ≡ []
nothing_left [] h = refl
nothing_left (name ∷ names) h = let long : zero ≡ suc (length names) = length_permutation (name ∷ names) [] h in absurd (omega arith)

none_listed : (edition : ℕ) → listed_names edition [] ≡ []
none_listed edition = elim (nat_eq edition 2) as (λ b. cond b (first_names [] []) [] ≡ []) [ true ↦ refl | false ↦ refl ]

no_names : (edition : ℕ) (f : TypedFunction) → Permuted f → text_names f ≡ [] → witness_names edition f ≡ []
no_names edition f h none =
    let no_more : listed_names edition (text_names f) ≡ [] = ap (listed_names edition) none ∙ none_listed edition in
    nothing_left (witness_names edition f) (subst (IsPermutation (witness_names edition f)) no_more (main_permuted edition f h))

no_witness : (witnesses : List TypedName) → map (λ w. w.name) witnesses ≡ [] → witnesses ≡ []
no_witness [] h = refl
no_witness (w ∷ witnesses) h = absurd (cc)

-- the witnesses by what `main` names
holds : (program : Checked) → listed program ≡ listed_names program.edition (names_if (function_of program.functions main_name)) →
    (name : List ℕ) (f : TypedFunction) → function_of program.functions name ≡ Some f →
    bytes_eq name f.name ≡ true → Permuted f → Quiet f → Holds program f
holds program are name f found is permuted silent =
    let as_main : IsTrue (is_main f.name) → function_of program.functions main_name ≡ Some f =
    λ main. ap (function_of program.functions) (sym (same_words name f.name is ∙ same_words f.name main_name main)) ∙ found in
    let same : IsTrue (is_main f.name) → listed program ≡ listed_names program.edition (text_names f) =
    λ main. are ∙ ap (λ o. listed_names program.edition (names_if o)) (as_main main) in
    record {
      all = λ main. subst (IsPermutation (witness_names program.edition f)) (sym (same main)) (main_permuted program.edition f permuted);
      in_order = λ main two. main_in_order program.edition f two ∙ sym (same main);
      none = λ other. no_names program.edition f permuted (silent other);
    }

pub held : AnsweredIsErased → AnsweredIsTyped → AnsweredNamesWitnesses → AnsweredIsHeld
held erased typed named source asked entries edition end program valued h =
    let t = typed source asked entries edition end program valued h in
    let s = of_source entries [] program.functions source (erased source asked entries edition end program valued h) in
    let m = of_main program.witnesses program.functions t.functions in
    let e = edition_kept source asked entries edition end program h in
    let are : listed program ≡ listed_names program.edition (names_if (function_of program.functions main_name)) =
    named source asked entries edition end program h ∙ ap (listed_names edition) (sym s.named ∙ m.named)
    ∙ ap (λ n. listed_names n (names_if (function_of program.functions main_name))) e in
    record {
      once = t.once;
      held = λ name f found.
          let p = every_found Permuted (λ g. bytes_eq name g.name) program.functions f s.permuted found in
          let q = every_found Quiet (λ g. bytes_eq name g.name) program.functions f m.others found in
          holds program are name f found p.1 p.0 q.0;
      no_main = λ none.
          let empty = ap (λ o. listed_names program.edition (names_if o)) (nowhere program.functions main_name none) in
          no_witness program.witnesses (are ∙ empty ∙ none_listed program.edition);
    }
