-- The nodes of entries.
use Rattle.std.specs.Prelude.{◌≡◌, ℕ, List, map, slice_get, Some}
use Rattle.simplicity.specs.Nodes.{Node, AreUnder, children}
use Rattle.small_terms.specs.Kinds.{node_of}
use Rattle.small_terms.specs.declared.entries.Entry.{Entry}

abbrev pub entry_node : Entry → Node
entry_node e = node_of e.node

abbrev pub entry_nodes : List Entry → List Node
entry_nodes es = map entry_node es

-- each entry's children stand before it
pub record AreBelow (es : List Entry) : Type 0 where
  pub below : (at : ℕ) (e : Entry) → slice_get es at ≡ Some e → AreUnder at (children (entry_node e))
