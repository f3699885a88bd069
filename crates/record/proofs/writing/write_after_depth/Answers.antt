-- `record::writing::write_after_depth` meets its contract: each number is stored after the one before it. Assumes nothing.
use Rattle.record.proofs.Writes.{four-wrote}
use Rattle.record.proofs.writing.write_after_depth.Goals as goal

pub returns : goal.returns
returns c = search four-wrote
