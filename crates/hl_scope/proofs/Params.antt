-- Parameters one after the other.
use Rattle.std.proofs.Common.{◌≡◌, ℕ, ◌+◌, ◌<◌, ◌≤◌, List, length, drop, get_or, refl, Ok}
use Rattle.hl_syntax.specs.declared.kinds.TypedName.{TypedName}
use Rattle.hl_syntax.specs.declared.tree.Param.{Param}
use Rattle.simplicityhl.specs.Written.{then_walk}
use Rattle.hl_rules.specs.Declared.{param_walk, params_walk}
use Rattle.hl_types.proofs.Drops.{drop_item, drop_past}

pub param_next : (aliases : List TypedName) (params : List Param) (i : ℕ) (param : Param) (met : List TypedName) → i < length params → param ≡ get_or params i param →
    params_walk aliases (drop i params) met ≡ then_walk (param_walk aliases param met) (λ more. params_walk aliases (drop (i + 1) params) more)
param_next aliases params i param met less is = let e = drop_item params i param less is in rw e refl

pub no_param : (aliases : List TypedName) (params : List Param) (i : ℕ) (met : List TypedName) → length params ≤ i → params_walk aliases (drop i params) met ≡ Ok met
no_param aliases params i met past = let e = drop_past i params past in rw e refl
