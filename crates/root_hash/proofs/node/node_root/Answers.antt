-- Answers to the goals of `node_root` in `node`.
use Rattle.root_hash.proofs.node.node_root.Goals as goal

pub returns-in-Unit : goal.returns-in-Unit
returns-in-Unit c = rw c.in-Unit.is c.constant-in-Unit.ensures

pub returns-in-Witness : goal.returns-in-Witness
returns-in-Witness c = rw c.in-Witness.is c.constant-in-Witness.ensures

pub returns-in-Injr : goal.returns-in-Injr
returns-in-Injr c = rw c.in-Injr.is c.single-in-Injr.ensures

pub returns-in-Take : goal.returns-in-Take
returns-in-Take c = rw c.in-Take.is c.single-in-Take.ensures

pub returns-in-Case : goal.returns-in-Case
returns-in-Case c = rw c.in-Case.is c.double-in-Case.ensures

pub returns-in-Pair : goal.returns-in-Pair
returns-in-Pair c = rw c.in-Pair.is c.double-in-Pair.ensures
