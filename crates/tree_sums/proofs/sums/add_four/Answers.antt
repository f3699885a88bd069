-- `tree_sums::sums::add_four` meets its contract: two children, then the two after them. Assumes nothing.
use Rattle.tree_sums.proofs.Bottom.{four-added}
use Rattle.tree_sums.proofs.sums.add_four.Goals as goal

pub returns : goal.returns
returns c = search four-added
