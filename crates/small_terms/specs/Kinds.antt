-- The kinds of nodes that a small source needs.
use Rattle.simplicity.specs.Nodes as node
use Rattle.simplicity.specs.Nodes.{Node}
use Rattle.small_terms.specs.declared.entries.SmallNode.{SmallNode}
use Rattle.small_terms.specs.declared.entries.SmallNode.TheVariants as code

abbrev pub node_of : SmallNode → Node
node_of code.Iden = node.Iden
node_of (code.Take i) = node.Take i
node_of (code.Drop i) = node.Drop i
node_of (code.Pair i j) = node.Pair i j
