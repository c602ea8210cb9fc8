-- The calls of an evaluation fit the program.
use Rattle.std.proofs.Common.{◌≡◌, ℕ, zero, suc, true, false, ◌||◌, List, [], ◌∷◌, map, cond, bytes_eq, Option, Some, None, refl, sym, ap, ◌∙◌, subst, IsTrue, arith, if◌then◌else◌}
use Rattle.std.specs.List.{All}
use Rattle.std.specs.Option.{option_copied}
use denote.Bor.{Bor}
use Rattle.std.proofs.lemmas.Slice.Eq.{bytes_eq-Decides}
use Rattle.hl_data.specs.declared.typed.TypedFunction.{TypedFunction}
use Rattle.hl_data.specs.declared.value.Entry.{Entry}
use Rattle.hl_data.specs.declared.value.HlValue.{HlValue}
use Rattle.hl_syntax.specs.declared.kinds.HlType.{HlType}
use Rattle.hl_syntax.specs.declared.kinds.TypedName.{TypedName}
use Rattle.hl_eval.specs.Bindings.{bindings_of}
use Rattle.hl_meaning.specs.Entries.{AreValued, IsValued}
use Rattle.hl_files.specs.Reads.{typed_name}
use Rattle.hl_meaning.specs.Scopes.{Binding}
use Rattle.hl_rules.specs.Declared.{has_function}
use Rattle.hl_rules.specs.Places.{is_main, has_name}
use Rattle.hl_rules.specs.Programs.{Checked}
use Rattle.hl_typing.specs.Patterns.{Once}
use Rattle.hl_progress.specs.Calls.{FitsCall, argument_type, function_of}
use Rattle.hl_meaning.specs.Entries.{IsValueOf}
use Rattle.hl_progress.specs.Held.{HasValue}
use Rattle.hl_typing.proofs.Every.{Every, every_of}
use Rattle.hl_typing.proofs.Once.{neither, other_way}
use Rattle.checked_source.specs.Steps.{wanted}

-- The function that was asked for is there.

not_missing : (functions : List TypedFunction) (name : List ℕ) → IsTrue (has_function functions name) → function_of functions name ≡ None → ⊥
not_missing [] name there none = absurd (cc)
not_missing (f ∷ functions) name there none =
    elim (bytes_eq name f.name) as (λ b. IsTrue (b || has_function functions name) → cond b (Some f) (function_of functions name) ≡ None → ⊥) [
      | true ↦ λ _ is. absurd (cc)
      | false ↦ λ among is. not_missing functions name among is
    ] there none

pub missing_is : (fs gs : List TypedFunction) (name : List ℕ) (o : Option (Bor TypedFunction)) → o ≡ None → option_copied o ≡ function_of fs name → fs ≡ gs → IsTrue (has_function gs name) → ⊥
missing_is fs gs name o is found same there = not_missing gs name there (sym (ap (λ hs. function_of hs name) same) ∙ (sym found ∙ ap option_copied is))

-- The entries give the witnesses values of their types.

all_of : {A : Type 0} (P : A → Type 0) (xs : List A) → Every P xs → All P xs
all_of P [] h i d less = absurd (omega (arith, less))
all_of P (x ∷ xs) h zero d less = h.0
all_of P (x ∷ xs) h (suc i) d less = all_of P xs h.1 i d (omega (arith, less))

-- a name that isn't the first binding's means what it means among the others
later : (scope : List Binding) (one : Binding) (n : TypedName) → bytes_eq n.name one.name ≡ false → HasValue scope n → HasValue (one ∷ scope) n
later scope one n other h = record { value = h.value; is = rw other h.is; fits = h.fits }

all_later : (scope : List Binding) (one : Binding) (names : List TypedName) → has_name names one.name ≡ false → Every (HasValue scope) names → Every (HasValue (one ∷ scope)) names
all_later scope one [] none h = tt
all_later scope one (n ∷ names) none h =
    let apart = neither (bytes_eq one.name n.name) (has_name names one.name) none in
    (later scope one n (other_way one.name n.name apart.0) h.0, all_later scope one names apart.1 h.1)

have_values : (entries : List Entry) → Once (map typed_name entries) → Every IsValued entries → Every (HasValue (bindings_of entries)) (map typed_name entries)
have_values [] once valued = tt
have_values (e ∷ entries) once valued =
    let one : Binding = record { name = e.name; value = e.value } in
    let first : HasValue (one ∷ bindings_of entries) (typed_name e) = record { value = e.value; is = rw ((bytes_eq-Decides e.name e.name).1 refl) refl; fits = valued.0.value } in
    (first, all_later (bindings_of entries) one (map typed_name entries) once.0 (have_values entries once.1 valued.1))

pub witnesses_valued : (program : Checked) (name : List ℕ) (names : List TypedName) (entries : List Entry) → Once program.witnesses → names ≡ wanted name program → AreValued entries → map typed_name entries ≡ names →
    IsTrue (is_main name) → All (HasValue (bindings_of entries)) program.witnesses
witnesses_valued program name names entries alone asked valued are main =
    let wanted_are : wanted name program ≡ program.witnesses = ap (λ t. if t then program.witnesses else []) main in
    let same : program.witnesses ≡ map typed_name entries = sym (are ∙ asked ∙ wanted_are) in
    let once : Once (map typed_name entries) = subst Once same alone in
    subst (All (HasValue (bindings_of entries))) (sym same) (all_of (HasValue (bindings_of entries)) (map typed_name entries) (have_values entries once (every_of IsValued entries valued)))

-- The call.
pub fits_call : (program : Checked) (name : List ℕ) (f : TypedFunction) (kind : HlType) (argument : HlValue) (entries : List Entry) → function_of program.functions name ≡ Some f → kind ≡ argument_type f.params → IsValueOf argument kind →
    (IsTrue (is_main name) → All (HasValue (bindings_of entries)) program.witnesses) → FitsCall program name argument (bindings_of entries)
fits_call program name f kind argument entries there typed of valued = record { function = f; there = there; fits = subst (IsValueOf argument) typed of; given = valued }
