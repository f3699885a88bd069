-- `tree_fill::tree_fill::add_run` meets its contract: the two halves of the buffer by half as many siblings each, one sibling as a tree.
-- The measure is what is left of the depth. Assumes nothing.
use Rattle.tree_sums.specs.Inner.Ranges.{left_of}
use Rattle.tree_fill.proofs.fill.+add_run.Given as goal

abbrev pub decreases-add_run : goal.decreases-add_run
decreases-add_run l = left_of l.run
