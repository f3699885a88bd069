-- `tree_walk::leaf::walk` meets its contract: by the block of the root and of the leaf. Assumes nothing.
use borrow.Author.Rules.{rules}
use Rattle.tree.proofs.Nodes.{given-state, node_of_columns}
use Rattle.tree_walk.proofs.Walked.{walked-root}
use Rattle.tree_walk.proofs.leaf.walk.Goals as goal

pub returns : goal.returns
returns c = search (rules, walked-root, given-state, node_of_columns)
