-- `ends_bench_leaves::values::noise_at` meets its contract, tree by tree. Assumes nothing.
use Rattle.std.proofs.Common.{arith, ◌∙◌}
use Rattle.std.proofs.lemmas.List.{get_or-take}
use Rattle.ends_bench_leaves.proofs.Leaves.{word_none, word_more, noise_hit, noise_miss}
use Rattle.ends_bench_leaves.proofs.vector.Vector.noise_at.Goals as goal
use Rattle.ends_bench_leaves.proofs.vector.Vector.noise_at.Goals.{then-tree-j, else-tree-j}

pub loop-tree-init : goal.loop-tree-init
loop-tree-init c = search word_none

pub loop-tree-preserved : goal.loop-tree-preserved
loop-tree-preserved c =
    let table = c.args.self.now.table.now in
    let i = c.loop-tree.tree-index in
    let here = get_or-take c.args.self.now.layout.trees table i _ (omega arith) in
    word_more _ _ _ c.loop-tree.invariant
    (elim c.if-tree-j.branch [
      | then-tree-j w ↦ w.noise-is ∙ noise_hit table i c.args.j c.loop-tree.noise here w.if-tree-j.true
      | else-tree-j w ↦ w.noise-is ∙ noise_miss table i c.args.j c.loop-tree.noise here w.if-tree-j.false
    ])
