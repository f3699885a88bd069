-- `tree_fill::tree_fill::add_range` meets its contract: the last level at once, with two children a node the last three, else the two
-- halves of the buffer by two children, or by half as many children each. The measure is what is left of the depth. Assumes nothing.
use Rattle.tree_sums.specs.Inner.Ranges.{left_of}
use Rattle.tree_fill.proofs.fill.+add_range.Given as goal

abbrev pub decreases-add_range : goal.decreases-add_range
decreases-add_range l = left_of l.range
