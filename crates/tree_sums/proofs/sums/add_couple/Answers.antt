-- `tree_sums::sums::add_couple` meets its contract: the first node's children, then the second's. Assumes nothing.
use Rattle.tree_sums.proofs.Couples.{couple_added}
use Rattle.tree_sums.proofs.sums.add_couple.Goals as goal

pub returns : goal.returns
returns c = search couple_added
