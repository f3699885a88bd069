-- `ends_bench_leaves::values::two_walked` meets its contract. Assumes nothing.
use Rattle.ends_bench_leaves.proofs.Leaves.{two-walked_are}
use Rattle.ends_bench_leaves.proofs.vector.Vector.two_walked.Goals as goal

pub returns : goal.returns
returns c = search two-walked_are
