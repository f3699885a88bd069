-- `ends_bench_leaves::values::noise_at`: the noise value that the trees before this one give.
use mathlib.Core.Path.{◌≡◌}
use Rattle.ends_bench_leaves.specs.Inner.Trees.{noise_word}
use Rattle.ends_bench_leaves.proofs.vector.Vector.noise_at.Given as goal

abbrev pub invariant-loop-tree : goal.invariant-loop-tree
invariant-loop-tree l = l.noise ≡ noise_word l.self.table.now l.tree-index l.j
