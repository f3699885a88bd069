-- `ends_bench::batch::write_outputs` meets its contract; the last batch has what is left of the window. Assumes nothing.
use Rattle.std.proofs.Common.{arith}
use Rattle.ends_bench.proofs.Strips.{windowed_none, part_room, windowed_more, windowed_all}
use Rattle.ends_bench.proofs.batch.write_outputs.Goals as goal

pub loop-done-init : goal.loop-done-init
loop-done-init c = search windowed_none

pub slice_bounds-write_batch-end : goal.slice_bounds-write_batch-end
slice_bounds-write_batch-end c = search part_room

pub loop-done-preserved : goal.loop-done-preserved
loop-done-preserved c =
    windowed_more _ _ _ _ c.loop-done.invariant c.loop-done-test.true c.value_width-width.ensures _ c.min.ensures c.write_batch.ensures

pub returns-2 : goal.returns-2
returns-2 c =
    windowed_all _ _ _ _
    (windowed_more _ _ _ _ c.loop-done.invariant c.loop-done-test.true c.value_width-width.ensures _ c.min.ensures c.write_batch.ensures)
    (omega arith)
