-- `tree_fill::tree_fill::add_path` meets its contract: the half of the buffer that holds the position goes on along the path, the other
-- half follows from siblings. The measure is what is left of the depth. Assumes nothing.
use Rattle.tree_sums.specs.Inner.Ranges.{left_of}
use Rattle.tree_fill.proofs.fill.+add_path.Given as goal

abbrev pub decreases-add_path : goal.decreases-add_path
decreases-add_path l = left_of l.path.range
