-- `pads_write::write::finish_both_pads` meets its contract, turn by turn.
use native.Mathlib.Omega.{arith}
use Rattle.algebra.proofs.Written.{front-none}
use Rattle.pads.specs.Bytes.{pad_pair_bytes}
use Rattle.pads_write.proofs.Turns.{both-pads-finished}
use Rattle.pads_write.proofs.write.finish_both_pads.Goals as goal

pub loop-k-init : goal.loop-k-init
loop-k-init c = front-none pad_pair_bytes _ _

pub loop-k-preserved : goal.loop-k-preserved
loop-k-preserved c =
    both-pads-finished _ _ _ _ _ _ _ c.loop-k-test.true (omega arith) c.loop-k.invariant (omega arith) c.finish_two.ensures
