-- `tree_walk::down::from_sibling` meets its contract: a child beside the path's own, or a level further down. The measure is the levels.
-- Assumes nothing.
use Rattle.tree_walk.proofs.down.+from_sibling.Given as goal

abbrev pub decreases-from_sibling : goal.decreases-from_sibling
decreases-from_sibling l = l.levels
