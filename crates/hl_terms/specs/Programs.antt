-- The terms of functions and of programs, in both editions of the language.
use Rattle.std.specs.Prelude.{ℕ, suc, Bool, ◌&&◌, not, nat_eq, List, [], ◌∷◌, ◌++◌, length, if◌then◌else◌}
use Rattle.hl_data.specs.declared.typed.TypedFunction.{TypedFunction}
use Rattle.hl_syntax.specs.declared.kinds.TypedName.{TypedName}
use Rattle.simplicity.specs.Canon.{Declared}
use Rattle.simplicity.specs.Makes.{iden, comp, pair, witness, tuple}
use Rattle.simplicity.specs.Types.{Kind}
use Rattle.simplicityhl.specs.Kinds.{form}
use Rattle.hl_rules.specs.Places.{is_main}
use Rattle.hl_terms.specs.Shapes.{Both, kind_of, params_shape, witnesses_shape}
use Rattle.hl_terms.specs.Translated.{Expansions, FunctionTerm, translated}

-- a body where the parameters alone are in scope: each place of a witness is a leaf
abbrev pub plain_term : Expansions → List TypedName → List FunctionTerm → TypedFunction → Declared
plain_term x witnesses before f = translated x before witnesses f.body (params_shape f.params)

-- the witnesses of a list, each at its declared type with its number
abbrev pub witness_leaves : Kind → ℕ → List TypedName → List Declared
witness_leaves a n [] = []
witness_leaves a n (w ∷ ws) = witness a (form w.kind) n ∷ witness_leaves a (suc n) ws

abbrev pub witness_tuple : Kind → List TypedName → Declared
witness_tuple a witnesses = tuple a (witness_leaves a 0 witnesses)

-- a body where the witnesses are bound before the parameters, each read once whatever uses it
abbrev pub bound_term : Expansions → List TypedName → List FunctionTerm → TypedFunction → Declared
bound_term x witnesses before f =
    comp (pair (witness_tuple (kind_of (params_shape f.params)) witnesses) (iden (kind_of (params_shape f.params))))
    (translated x before witnesses f.body (Both (witnesses_shape witnesses) (params_shape f.params)))

-- in edition 2 they are bound for `main`, where there are any
abbrev pub binds_witnesses : (edition : ℕ) → List TypedName → TypedFunction → Bool
binds_witnesses edition witnesses f = nat_eq edition 2 && (is_main f.name && not (nat_eq (length witnesses) 0))

abbrev pub function_body : Expansions → (edition : ℕ) → List TypedName → List FunctionTerm → TypedFunction → Declared
function_body x edition witnesses before f =
    if binds_witnesses edition witnesses f then bound_term x witnesses before f else plain_term x witnesses before f

abbrev pub function_term : Expansions → (edition : ℕ) → List TypedName → List FunctionTerm → TypedFunction → FunctionTerm
function_term x edition witnesses before f = record { name = f.name; params = f.params; term = function_body x edition witnesses before f }

-- the functions of a program, each after those before it
abbrev pub functions_after : Expansions → (edition : ℕ) → List TypedName → List FunctionTerm → List TypedFunction → List FunctionTerm
functions_after x edition witnesses before [] = []
functions_after x edition witnesses before (f ∷ fs) =
    let first = function_term x edition witnesses before f in
    first ∷ functions_after x edition witnesses (before ++ first ∷ []) fs

unfoldable pub program_terms : Expansions → (edition : ℕ) → List TypedName → List TypedFunction → List FunctionTerm
program_terms x edition witnesses fs = functions_after x edition witnesses [] fs
