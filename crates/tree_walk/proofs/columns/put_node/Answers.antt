-- `tree_walk::columns::put_node` meets its contract: one word after the other. Assumes nothing.
use borrow.Author.Rules.{rules}
use Rattle.tree.proofs.Nodes.{sets-node}
use Rattle.tree_walk.proofs.columns.put_node.Goals as goal

pub returns : goal.returns
returns c = search (rules, sets-node)
