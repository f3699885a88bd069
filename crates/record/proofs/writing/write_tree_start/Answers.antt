-- `record::writing::write_tree_start` meets its contract: each part is stored after the one before it. Assumes nothing.
use Rattle.record.proofs.Writes.{front-wrote}
use Rattle.record.proofs.writing.write_tree_start.Goals as goal

pub returns : goal.returns
returns c = search front-wrote
