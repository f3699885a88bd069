-- `pads_write::write::write_both_pads` meets its contract: the second pass finishes what the first one wrote.
use Rattle.pads_write.proofs.Turns.{both-pads-passes}
use Rattle.pads_write.proofs.write.write_both_pads.Goals as goal

pub returns : goal.returns
returns c = both-pads-passes _ _ _ _ _ _ _ c.start_both_pads.ensures c.finish_both_pads.ensures
