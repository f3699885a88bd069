-- `tree_walk::down::digit` meets its contract. Assumes nothing.
use Rattle.tree_walk.proofs.Ways.{digit_is, digit-named, digit-eight}
use Rattle.tree_walk.proofs.down.digit.Goals as goal

pub returns : goal.returns
returns c = (search digit_is, search digit-named, search digit-eight)
