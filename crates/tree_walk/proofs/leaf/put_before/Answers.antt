-- `tree_walk::leaf::put_before` meets its contract: the children before the pair, then its other child. Assumes nothing.
use Rattle.tree_walk.proofs.Walked.{front-put}
use Rattle.tree_walk.proofs.leaf.put_before.Goals as goal

pub returns : goal.returns
returns c = search front-put
