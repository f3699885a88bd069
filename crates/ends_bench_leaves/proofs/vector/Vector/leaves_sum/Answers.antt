-- `ends_bench_leaves::values::leaves_sum` meets its contract, two trees a turn and then the last of an odd number. Assumes nothing.
use Rattle.std.proofs.Common.{arith, ◌≡◌, ◌+◌, ◌-◌, ◌*◌}
use Rattle.ends_bench_leaves.proofs.Leaves.{partly_none, partly_two, partly_last, partly_all}
use Rattle.ends_bench_leaves.proofs.vector.Vector.leaves_sum.Goals as goal

pub loop-pair-init : goal.loop-pair-init
loop-pair-init c = search partly_none

pub loop-pair-preserved : goal.loop-pair-preserved
loop-pair-preserved c =
    let next : 2 * (c.loop-pair.pair + 1) ≡ 2 * c.loop-pair.pair + 2 = omega arith in
    rw next (partly_two _ _ _ _ c.loop-pair.invariant (omega arith) _ c.two_leaves.ensures c.element_sum-total.ensures)

pub returns-then-trees-eq0 : goal.returns-then-trees-eq0
returns-then-trees-eq0 c = partly_all _ _ _ _ c.loop-pair.invariant (omega arith)

pub returns : goal.returns
returns c =
    let place : c.args.self.now.layout.trees - 1 ≡ 2 * c.loop-pair.pair = omega arith in
    partly_last _ _ _ _ c.loop-pair.invariant (omega arith) (omega arith) _ _ (rw place at c.leaf_of.ensures) c.element_sum.ensures
