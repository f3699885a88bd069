-- `ends_bench_leaves::vector::of_scalar` meets its contract. Assumes nothing.
use Rattle.ends_bench_leaves.proofs.Tables.{w0_walking}
use Rattle.ends_bench_leaves.proofs.vector.Vector.of_scalar.Goals as goal

pub invariant_of-result : goal.invariant_of-result
invariant_of-result c = record { walking = w0_walking c.args.accepted _ c.requires }
