-- `tree_walk::node::TreeCipher::child_of_both` meets its contract: both ciphers, and each sum with its node. Assumes nothing.
use borrow.Author.Rules.{rules}
use Rattle.tree.proofs.Nodes.{child-block}
use Rattle.tree_walk.proofs.node.TreeCipher.child_of_both.Goals as goal

pub returns : goal.returns
returns c = (search (rules, child-block), search (rules, child-block))
