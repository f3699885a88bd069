-- `tree_sums::sums::add_bottom` meets its contract: two or four children, or four and the four after them. Assumes nothing.
use Rattle.tree_sums.proofs.Bottom.{bottom_eight}
use Rattle.tree_sums.proofs.sums.add_bottom.Goals as goal

pub returns-in_default : goal.returns-in_default
returns-in_default c = search bottom_eight
