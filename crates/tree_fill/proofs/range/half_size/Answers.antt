-- `tree_fill::range::half_size` meets its contract. Assumes nothing.
use Rattle.tree_fill.proofs.Ranges.{half_power}
use Rattle.tree_fill.proofs.range.half_size.Goals as goal

pub returns : goal.returns
returns c = search half_power
