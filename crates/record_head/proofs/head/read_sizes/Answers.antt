-- `record_head::head::read_sizes` meets its contract: the depth, then the rest. Assumes nothing.
use Rattle.std.proofs.Common.{sym}
use Rattle.answer.proofs.Refusals.{passed_on}
use Rattle.record.proofs.Heads.{size-range}
use Rattle.record.specs.Reading.{read_sizes}
use Rattle.record_head.proofs.head.read_sizes.Goals as goal

pub returns-in_err-depth : goal.returns-in_err-depth
unfolding read_sizes
returns-in_err-depth c = rw (passed_on c.from_residual.result c.from_residual.ensures.1, ← c.in_err-depth.ensures)

pub read_after_depth-requires : goal.read_after_depth-requires
read_after_depth-requires c = (size-range 16 _ _ (sym c.in_ok-depth.ensures)).1

pub returns : goal.returns
unfolding read_sizes
returns c = rw (← c.in_ok-depth.ensures) c.read_after_depth.ensures
