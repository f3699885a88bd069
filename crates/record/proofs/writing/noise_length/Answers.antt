-- `record::writing::noise_length` meets its contract: one law for the loop's start, its turn and its end. Assumes nothing.
use Rattle.std.proofs.Common.{rules}
use Rattle.record.proofs.Lengths.{sum-start, sum-asks, sum-next, sum_done}
use Rattle.record.proofs.writing.noise_length.Goals as goal

pub loop-position-init : goal.loop-position-init
loop-position-init c = search sum-start

pub tree_length-total-requires : goal.tree_length-total-requires
tree_length-total-requires c = (search rules, search sum-asks)

pub loop-position-preserved : goal.loop-position-preserved
loop-position-preserved c = search sum-next

pub returns : goal.returns
returns c = search sum_done
