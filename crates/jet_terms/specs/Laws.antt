-- The laws of the expansions of jets: each is typed as its jet's arguments and results, and computes what the jet's formula says.
use Rattle.std.specs.Prelude.{◌≡◌, ℕ, ◌^◌, ◌<◌, List, [], ◌∷◌, option_map, IsTrue}
use Rattle.simplicity.specs.Arrows.{IsTypedFrom}
use Rattle.simplicity.specs.Canon.{erased}
use Rattle.simplicity.specs.Terms.{meaning}
use Rattle.simplicity.specs.Tuples.{tuple_value}
use Rattle.simplicity.specs.Types.{Value, word_value}
use Rattle.simplicity.specs.Widths.{level_of}
use Rattle.jets.specs.Formula.{numbers}
use Rattle.jets.specs.Jet as jet
use Rattle.jets.specs.Jet.{Jet, width_of, argument_kinds, result_kinds, is_jet}
use Rattle.jet_terms.specs.Expansions.{jet_term, source_of, result_of}

-- numbers as the words of their types, and numbers that go into these
abbrev pub values_of : List jet.Kind → List ℕ → List Value
values_of (k ∷ ks) (x ∷ xs) = word_value (level_of (width_of k)) x ∷ values_of ks xs
values_of _ _ = []

abbrev pub AreNumbers : List jet.Kind → List ℕ → Type 0
AreNumbers [] [] = Unit {0}
AreNumbers (k ∷ ks) (x ∷ xs) = (x < 2 ^ width_of k) × AreNumbers ks xs
AreNumbers _ _ = ⊥

-- on the tuple of the words of the arguments the term gives the tuple of the words of the results, and fails exactly where the jet
-- has none, whatever the witnesses
abbrev pub Gives : Jet → ℕ → ℕ → List Value → List ℕ → Type 0
Gives j n w ws xs =
    meaning (erased (jet_term j n w)) ws (tuple_value (values_of (argument_kinds j n w) xs))
    ≡ option_map (λ ys. tuple_value (values_of (result_kinds j n w) ys)) (numbers j n w xs)

abbrev pub IsFormula : Jet → Type 0
IsFormula j = (n w : ℕ) → IsTrue (is_jet j n w) → (xs : List ℕ) (ws : List Value) → AreNumbers (argument_kinds j n w) xs → Gives j n w ws xs

abbrev pub JetsCompute : Type 0
JetsCompute = (j : Jet) → IsFormula j

-- the term keeps to the typing table at every place, from the type of the arguments to that of the results
abbrev pub JetsAreTyped : Type 0
JetsAreTyped = (j : Jet) (n w : ℕ) → IsTrue (is_jet j n w) → IsTypedFrom (jet_term j n w) (source_of j n w) (result_of j n w)
