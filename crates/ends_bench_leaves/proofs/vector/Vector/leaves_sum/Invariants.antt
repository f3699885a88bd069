-- `ends_bench_leaves::values::leaves_sum`: the sum of the trees before those of a pair.
use Prim.Native.Nat.{◌*◌}
use Rattle.ends_bench_leaves.proofs.Leaves.{Partly}
use Rattle.ends_bench_leaves.proofs.vector.Vector.leaves_sum.Given as goal

abbrev pub invariant-loop-pair : goal.invariant-loop-pair
invariant-loop-pair l = Partly l.self.number l.self.source.now l.self.layout l.j (2 * l.pair) l.total
