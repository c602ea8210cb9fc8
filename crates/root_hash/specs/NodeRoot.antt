-- The root of a node from those of its children (after the Simplicity Technical Report, "Commitment Merkle Root"; the tags are this project's own).
use Rattle.std.specs.Prelude.{ℕ, List, [], codes}
use Rattle.std.specs.List.{slice_index_or}
use Rattle.simplicity.specs.Nodes.{Node}
use Rattle.simplicity.specs.Nodes as node
use Rattle.simplicity.specs.Terms as term
use Rattle.simplicity.specs.Roots.{absent, tagged, unit_root, injl_root, injr_root, pair_root, case_root, word_root, root}

abbrev pub root_at : List (List ℕ) → ℕ → List ℕ
root_at rs i = slice_index_or rs i []

abbrev pub node_root : List (List ℕ) → Node → List ℕ
node_root rs node.Iden = root term.Iden
node_root rs node.UnitNode = unit_root
node_root rs (node.Injl i) = injl_root (root_at rs i)
node_root rs (node.Injr i) = injr_root (root_at rs i)
node_root rs (node.Take i) = tagged (codes "simphl/take") (root_at rs i) absent
node_root rs (node.Drop i) = tagged (codes "simphl/drop") (root_at rs i) absent
node_root rs (node.Comp i j) = tagged (codes "simphl/comp") (root_at rs i) (root_at rs j)
node_root rs (node.Case i j) = case_root (root_at rs i) (root_at rs j)
node_root rs (node.Pair i j) = pair_root (root_at rs i) (root_at rs j)
node_root rs (node.Hidden h) = h
node_root rs (node.Fail e) = root (term.Fail e)
node_root rs node.Witness = tagged (codes "simphl/witness") absent absent
node_root rs (node.Word k n) = word_root k n
