-- `ends_bench_leaves::values::two_leaves` meets its contract: one leaf after the other where a tree is punctured, else both walks. Assumes
-- nothing.
use Rattle.ends_bench_leaves.proofs.Leaves.{two-leaves_are}
use Rattle.ends_bench_leaves.proofs.vector.Vector.two_leaves.Goals as goal

pub returns : goal.returns
returns c = search two-leaves_are
