-- `tree_walk::node::TreeCipher::children` meets its contract: both ciphers, and the sum with the node. Assumes nothing.
use borrow.Author.Rules.{rules}
use Rattle.tree.proofs.Nodes.{child-block}
use Rattle.tree_walk.proofs.node.TreeCipher.children.Goals as goal

pub returns : goal.returns
returns c = (search (rules, child-block), search (rules, child-block))
