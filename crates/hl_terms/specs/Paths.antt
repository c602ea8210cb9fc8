-- Paths: from the input to what stands there for a name, by halves.
use Rattle.std.specs.Prelude.{ℕ, Bool, false, List, [], ◌∷◌, bytes_eq, Option, Some, None, option_map, if◌then◌else◌}
use Rattle.simplicity.specs.Canon.{Declared}
use Rattle.simplicity.specs.Makes.{first_of, second_of, iden, on_first, on_second}
use Rattle.simplicity.specs.Types.{Kind}
use Rattle.hl_terms.specs.Shapes.{Shape, Ignored, Variable, Witness, Both, kind_of}

-- to the first part of a pair, or to the second
pub data Step : Type 0 where
  ToFirst : Step
  ToSecond : Step

-- a part that has it, the first where both have
abbrev pub first_steps : Option (List Step) → Option (List Step) → Option (List Step)
first_steps (Some steps) other = Some (ToFirst ∷ steps)
first_steps None (Some steps) = Some (ToSecond ∷ steps)
first_steps None None = None

-- to the first place from the left; a test for variables and one for witnesses say what is looked for
abbrev pub steps_for : (variable witness : List ℕ → Bool) → Shape → Option (List Step)
steps_for variable witness (Ignored k) = None
steps_for variable witness (Variable name k) = if variable name then Some [] else None
steps_for variable witness (Witness name k) = if witness name then Some [] else None
steps_for variable witness (Both a b) = first_steps (steps_for variable witness a) (steps_for variable witness b)

abbrev pub nothing : List ℕ → Bool
nothing name = false

-- to the innermost variable of a name, and to the bound witness of a name
abbrev pub path_of : List ℕ → Shape → Option (List Step)
path_of name = steps_for (bytes_eq name) nothing

abbrev pub witness_path_of : List ℕ → Shape → Option (List Step)
witness_path_of name = steps_for nothing (bytes_eq name)

-- the term of a path from a type: take and drop before iden
abbrev pub path_term : Kind → List Step → Declared
path_term k [] = iden k
path_term k (ToFirst ∷ steps) = on_first (second_of k) (path_term (first_of k) steps)
path_term k (ToSecond ∷ steps) = on_second (first_of k) (path_term (second_of k) steps)

-- the terms that lead there
abbrev pub variable_term : List ℕ → Shape → Option Declared
variable_term name scope = option_map (path_term (kind_of scope)) (path_of name scope)

abbrev pub witness_term : List ℕ → Shape → Option Declared
witness_term name scope = option_map (path_term (kind_of scope)) (witness_path_of name scope)
