-- `tree_fill::tree_fill::add_run` meets its contract: the two halves of the buffer by half as many siblings each, one sibling as a tree.
-- The measure is what is left of the depth. Assumes nothing.
use Rattle.tree_fill.proofs.Ranges.{sibling_range, first_half_run, back-run}
use Rattle.tree_fill.proofs.Filled.{sibling_length, run-falls, run_half_front, run_half_back, filled_sibling, filled_runs}
use Rattle.tree_fill.proofs.fill.+add_run.Goals as goal

pub add_range-requires : goal.add_range-requires
add_range-requires t c = rw c.all_children-all.ensures (search sibling_range, search sibling_length)

pub add_run-requires : goal.add_run-requires
add_run-requires t c = rw c.half_from-low.ensures (search run-falls, (search first_half_run, search run_half_front))

pub add_run-requires-else-bits-eq0 : goal.add_run-requires-else-bits-eq0
add_run-requires-else-bits-eq0 t c = rw c.half_from-high.ensures (search run-falls, (search back-run, search run_half_back))

pub returns-then-bits-eq0 : goal.returns-then-bits-eq0
returns-then-bits-eq0 t c = let a = rw c.all_children-all.ensures at c.add_range.ensures in search (filled_sibling, a)

pub returns-else-bits-eq0 : goal.returns-else-bits-eq0
returns-else-bits-eq0 t c =
    let a = rw c.half_from-low.ensures at c.add_run.ensures in
    let b = rw c.half_from-high.ensures at c.add_run-else-bits-eq0.ensures in
    search (filled_runs, a, b)
