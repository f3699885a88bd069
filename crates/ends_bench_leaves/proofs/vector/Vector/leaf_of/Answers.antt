-- `ends_bench_leaves::values::leaf_of` meets its contract: the correction, or the leaf that a walk gives. Assumes nothing.
use Rattle.ends_bench_leaves.proofs.Starts.{punctured-leaf}
use Rattle.ends_bench_leaves.proofs.Leaves.{leaf_walked}
use Rattle.ends_bench_leaves.proofs.vector.Vector.leaf_of.Goals as goal

pub returns-then-punctured_at : goal.returns-then-punctured_at
returns-then-punctured_at c = search punctured-leaf

pub returns : goal.returns
returns c = search leaf_walked
