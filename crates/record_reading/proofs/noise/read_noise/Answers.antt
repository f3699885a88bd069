-- `record_reading::noise::read_noise` meets its contract: one law for each return, and for the loop's start and turn. Assumes nothing.
use Rattle.std.proofs.Common.{arith}
use Rattle.answer.proofs.Refusals.{passed_on}
use Rattle.record_reading.proofs.Records.{noise-refused, deep, branch-some, branch-few, turn_start, turn_refused, turn_fits, turn_next, turn_after, turn_whole}
use Rattle.record_reading.proofs.noise.read_noise.Goals as goal

pub returns-in_err-layout : goal.returns-in_err-layout
returns-in_err-layout c = rw (passed_on c.from_residual.result c.from_residual.ensures.1) (noise-refused _ c.in_err-layout.ensures)

pub sibling_count-siblings-requires : goal.sibling_count-siblings-requires
sibling_count-siblings-requires c = (deep _ c.in_ok-layout.ensures, branch-some _ c.in_ok-layout.ensures, branch-few _ c.in_ok-layout.ensures)

pub loop-init : goal.loop-init
loop-init c = turn_start _ c.in_ok-layout.ensures c.sibling_count-siblings.ensures

pub read_tree-requires : goal.read_tree-requires
read_tree-requires c = (c.loop.invariant.below, c.loop.invariant.depth, omega (arith, c.loop.invariant.few))

pub returns-in_err-tree : goal.returns-in_err-tree
returns-in_err-tree c =
    rw (passed_on c.from_residual-in_err-tree.result c.from_residual-in_err-tree.ensures.1) (turn_refused c.loop.invariant (omega arith) c.in_err-tree.ensures.value)

pub overflow_add-base : goal.overflow_add-base
overflow_add-base c = turn_fits c.loop.invariant (omega arith) c.in_ok-tree.ensures.value 1 (omega arith)

pub loop-preserved : goal.loop-preserved
loop-preserved c = turn_next c.loop.invariant (omega arith) c.in_ok-tree.ensures.value

pub returns-then-at-source : goal.returns-then-at-source
returns-then-at-source c = turn_after c.loop.invariant (omega arith) c.if-at-source.true

pub returns : goal.returns
returns c = turn_whole c.loop.invariant (omega arith) c.if-at-source.false
