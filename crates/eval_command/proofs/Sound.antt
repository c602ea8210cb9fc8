-- The parameters of the functions of a typed program have sound types.
use Rattle.std.proofs.Common.{◌≡◌, ℕ, List, [], ◌∷◌, ◌++◌, map, bytes_eq, Some, refl, IsTrue}
use Rattle.std.specs.List.{All, list_all}
use Rattle.hl_data.specs.declared.typed.TypedFunction.{TypedFunction}
use Rattle.hl_syntax.specs.declared.kinds.HlType.{HlType}
use Rattle.hl_syntax.specs.declared.kinds.HlType.TheOpen.{HlType-F}
use Rattle.hl_syntax.specs.declared.kinds.HlType.TheVariants as kind
use Rattle.hl_syntax.specs.declared.kinds.TypedName.{TypedName}
use Rattle.simplicityhl.specs.Kinds.{IsSound, is_sound}
use Rattle.hl_rules.specs.Programs.{Checked}
use Rattle.hl_progress.specs.Calls.{argument_type, function_of}
use Rattle.hl_typing.specs.Programs.{FunctionsTyped, ProgramTyped, no_function, one_function}
use Rattle.hl_typing.proofs.Every.{Every, every_join, every_found, every_of}
use Rattle.hl_typing.proofs.Sound.{unit_sound, closed_sound, and_true}

abbrev HasSound : TypedName → Type 0
HasSound n = IsSound n.kind

kinds_sound : (params : List TypedName) → Every HasSound params → IsTrue (list_all (λ part. part) (map is_sound (map (λ p. p.kind) params)))
kinds_sound [] h = refl
kinds_sound (p ∷ params) h = and_true (is_sound p.kind) (list_all (λ part. part) (map is_sound (map (λ q. q.kind) params))) h.0 (kinds_sound params h.1)

argument_sound : (params : List TypedName) → Every HasSound params → IsSound (argument_type params)
argument_sound (p ∷ []) h = h.0
argument_sound [] h = unit_sound
argument_sound (p ∷ q ∷ params) h =
    let ks : List HlType = map (λ r. r.kind) (p ∷ q ∷ params) in
    closed_sound (HlType-F.Tuple ks) (kind.Tuple ks) (kind.outs-Tuple ks) (kinds_sound (p ∷ q ∷ params) h)

abbrev TakesSound : TypedFunction → Type 0
TakesSound f = All HasSound f.params

functions_sound : (witnesses : List TypedName) (functions : List TypedFunction) → FunctionsTyped witnesses functions → Every TakesSound functions
functions_sound witnesses functions no_function = tt
functions_sound witnesses functions (one_function before f rest typed other main) = every_join TakesSound before (f ∷ []) (functions_sound witnesses before rest) (typed.sound, tt)

-- the argument of a function of a typed program has a sound type
pub sound_argument : (program : Checked) (name : List ℕ) (f : TypedFunction) → ProgramTyped program → function_of program.functions name ≡ Some f → IsSound (argument_type f.params)
sound_argument program name f typed there =
    let all = functions_sound program.witnesses program.functions typed.functions in
    argument_sound f.params (every_of HasSound f.params (every_found TakesSound (λ (g : TypedFunction). bytes_eq name g.name) program.functions f all there).0)
