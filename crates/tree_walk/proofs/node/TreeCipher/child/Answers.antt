-- `tree_walk::node::TreeCipher::child` meets its contract: the cipher, and the sum with the node. Assumes nothing.
use borrow.Author.Rules.{rules}
use Rattle.tree.proofs.Nodes.{child-block}
use Rattle.tree_walk.proofs.node.TreeCipher.child.Goals as goal

pub returns : goal.returns
returns c = search (rules, child-block)
