-- `tree_sums::sums::add_both` meets its contract: the children of both nodes, then the leaves below those. Assumes nothing.
use Rattle.tree_sums.proofs.Couples.{both-added}
use Rattle.tree_sums.proofs.sums.add_both.Goals as goal

pub returns : goal.returns
returns c = search both-added
