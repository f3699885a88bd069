-- `ends_bench_leaves::vector::of_noise` meets its contract. Assumes nothing.
use Rattle.ends_bench_leaves.proofs.Tables.{noise-walking}
use Rattle.ends_bench_leaves.proofs.vector.Vector.of_noise.Goals as goal

pub invariant_of-result : goal.invariant_of-result
invariant_of-result c = record { walking = noise-walking c.args.accepted c.requires.trees _ c.requires.noise c.requires.own }
