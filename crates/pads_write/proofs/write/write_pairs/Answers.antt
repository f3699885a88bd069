-- `pads_write::write::write_pairs` meets its contract: the second pass finishes what the first one wrote.
use Rattle.pads_write.proofs.Turns.{pairs_passes}
use Rattle.pads_write.proofs.write.write_pairs.Goals as goal

pub returns : goal.returns
returns c = pairs_passes _ _ _ _ _ _ c.start_pairs.ensures c.finish_pairs.ensures
