-- `pairing_tests::held::count_held` meets its contract: an output more is counted where it holds.
use Rattle.std.proofs.Common.{arith}
use Rattle.pairing_tests.proofs.Turns.{held_none, held_more, held_same}
use Rattle.pairing_tests.proofs.held.count_held.Goals as goal
use Rattle.pairing_tests.proofs.held.count_held.Goals.{then-holds_at, else-holds_at}

pub loop-x-init : goal.loop-x-init
loop-x-init c = record { few = omega arith; counted = held_none _ _ _ _ _ }

pub loop-x-preserved : goal.loop-x-preserved
loop-x-preserved c = elim c.if-holds_at.branch [
  | then-holds_at w ↦ rw w.held-is (record { few = omega arith; counted = held_more _ _ _ _ _ _ c.loop-x.invariant.counted w.if-holds_at.ensures })
  | else-holds_at w ↦ rw w.held-is (record { few = omega arith; counted = held_same _ _ _ _ _ _ c.loop-x.invariant.counted w.if-holds_at.ensures })
]
