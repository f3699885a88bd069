-- `record::sizes::sibling_count` meets its contract. Assumes nothing.
use Rattle.record.proofs.Lengths.{siblings_are, siblings-few}
use Rattle.record.proofs.sizes.sibling_count.Goals as goal

pub returns : goal.returns
returns c = (search siblings_are, search siblings-few)
