-- The argument of a call: the values of the parameters in it, and their encodings in its encoding.
use Rattle.std.proofs.Common.{◌≡◌, List, [], ◌∷◌, map, Some, refl, ap}
use Rattle.hl_data.specs.declared.value.HlValue.{HlValue}
use Rattle.hl_data.specs.declared.value.HlValue.TheOpen.{HlValue-F}
use Rattle.hl_data.specs.declared.value.HlValue.TheViews.{out-HlValue}
use Rattle.hl_syntax.specs.declared.kinds.HlType.{HlType}
use Rattle.hl_syntax.specs.declared.kinds.HlType.TheOpen.{HlType-F}
use Rattle.hl_syntax.specs.declared.kinds.HlType.TheVariants as kind
use Rattle.hl_syntax.specs.declared.kinds.TypedName.{TypedName}
use Rattle.simplicity.specs.Tuples.{tuple_value, tuple_kind}
use Rattle.simplicity.specs.Types.{Value}
use Rattle.simplicityhl.specs.Kinds.{form}
use Rattle.hl_meaning.specs.Mean.{parts_of, in_argument}
use Rattle.hl_meaning.specs.Values.{encoded, at_each, beside}
use Rattle.hl_progress.specs.Calls.{argument_type}
use Rattle.hl_term_laws.proofs.Encoded.{form_at, layer_value, opened, mapped}

abbrev kinds_of : List TypedName → List HlType
kinds_of params = map (λ (p : TypedName). p.kind) params

pub record Arguments (params : List TypedName) (argument : HlValue) (core : Value) : Type 0 where
  pub values : List HlValue
  pub parts : parts_of params argument ≡ Some values
  pub cores : List Value
  pub encode : at_each (map encoded values) (kinds_of params) ≡ Some cores
  pub joined : tuple_value cores ≡ core

record InTuple (v : HlValue-F HlValue) (ks : List HlType) (core : Value) : Type 0 where
  values : List HlValue
  parts : in_argument v ≡ Some values
  cores : List Value
  encode : at_each (map encoded values) ks ≡ Some cores
  joined : tuple_value cores ≡ core

in_tuple : (v : HlValue-F HlValue) (ks : List HlType) (core : Value) → layer_value v (HlType-F.Tuple ks) ≡ Some core → InTuple v ks core
in_tuple (HlValue-F.Tuple vs) ks core e = let m = mapped tuple_value (at_each (map encoded vs) ks) core e in record { values = vs; parts = refl; cores = m.from; encode = m.was; joined = m.is }
in_tuple _ ks core e = absurd (cc)

tuple_argument : (argument : HlValue) (ks : List HlType) (core : Value) → encoded argument (kind.Tuple ks) ≡ Some core → InTuple (out-HlValue argument) ks core
tuple_argument argument ks core e = in_tuple (out-HlValue argument) ks core (opened argument (kind.Tuple ks) (HlType-F.Tuple ks) core (kind.outs-Tuple ks) e)

pub arguments : (params : List TypedName) (argument : HlValue) (core : Value) → encoded argument (argument_type params) ≡ Some core → Arguments params argument core
arguments (p ∷ []) argument core e = record { values = argument ∷ []; parts = refl; cores = core ∷ []; encode = ap (λ o. beside (λ v vs. v ∷ vs) o (Some [])) e; joined = refl }
arguments [] argument core e = let t = tuple_argument argument [] core e in record { values = t.values; parts = t.parts; cores = t.cores; encode = t.encode; joined = t.joined }
arguments (p ∷ q ∷ params) argument core e =
    let t = tuple_argument argument (kinds_of (p ∷ q ∷ params)) core e in record { values = t.values; parts = t.parts; cores = t.cores; encode = t.encode; joined = t.joined }

pub argument_form : (params : List TypedName) → form (argument_type params) ≡ tuple_kind (map form (kinds_of params))
argument_form (p ∷ []) = refl
argument_form [] = form_at (kind.Tuple []) (HlType-F.Tuple []) (kind.outs-Tuple [])
argument_form (p ∷ q ∷ params) = form_at (kind.Tuple (kinds_of (p ∷ q ∷ params))) (HlType-F.Tuple (kinds_of (p ∷ q ∷ params))) (kind.outs-Tuple (kinds_of (p ∷ q ∷ params)))
