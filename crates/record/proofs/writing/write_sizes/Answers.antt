-- `record::writing::write_sizes` meets its contract: the depth, then the other sizes. Assumes nothing.
use Rattle.number.proofs.Places.{wrote_then}
use Rattle.record.proofs.writing.write_sizes.Goals as goal

pub returns : goal.returns
returns c = search wrote_then
