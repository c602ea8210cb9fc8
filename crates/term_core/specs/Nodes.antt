-- What the code's nodes stand for.
use Rattle.std.specs.Prelude.{List, map}
use Rattle.simplicity.specs.Nodes as node
use Rattle.simplicity.specs.Nodes.{Node}
use Rattle.simplicity.specs.Widths.{level_of}
use Rattle.term_core.specs.declared.list_node.ListNode.{ListNode}
use Rattle.term_core.specs.declared.list_node.ListNode.TheVariants as code

-- the node of the core language that a node of a list is
abbrev pub node_of : ListNode → Node
node_of code.Iden = node.Iden
node_of code.Unit = node.UnitNode
node_of (code.Injl i) = node.Injl i
node_of (code.Injr i) = node.Injr i
node_of (code.Take i) = node.Take i
node_of (code.Drop i) = node.Drop i
node_of (code.Comp i j) = node.Comp i j
node_of (code.Case i j) = node.Case i j
node_of (code.Pair i j) = node.Pair i j
node_of (code.Hidden h) = node.Hidden h
node_of (code.Fail e) = node.Fail e
node_of code.Witness = node.Witness
node_of (code.Word w) = node.Word (level_of w.width) w.number

abbrev pub nodes_of : List ListNode → List Node
nodes_of ns = map node_of ns
