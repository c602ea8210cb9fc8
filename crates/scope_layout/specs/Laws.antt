-- The law of paths, as the contract of a public function has it.
use Rattle.std.specs.Prelude.{ℕ, List}
use Rattle.scope_layout.specs.Layers.{Scopes, path_of}
use Rattle.scope_layout.specs.Leads.{IsPath}
use Rattle.scope_layout.specs.declared.bound.Sort.{Sort}

-- each name of each sort has its path in every scope
abbrev pub PathsLead : Type 0
PathsLead = (s : Sort) (name : List ℕ) (scopes : Scopes) → IsPath s name scopes (path_of s name scopes)
