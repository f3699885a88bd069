-- `pads_write::write::finish_pairs` meets its contract, turn by turn.
use native.Mathlib.Omega.{arith}
use Rattle.algebra.proofs.Written.{front-none}
use Rattle.pads.specs.Bytes.{block_bytes}
use Rattle.pads_write.proofs.Turns.{pairs_finished}
use Rattle.pads_write.proofs.write.finish_pairs.Goals as goal

pub loop-k-init : goal.loop-k-init
loop-k-init c = front-none block_bytes _ _

pub loop-k-preserved : goal.loop-k-preserved
loop-k-preserved c =
    pairs_finished _ _ _ _ _ _ _ c.loop-k-test.true (omega arith) c.loop-k.invariant (omega arith) c.finish_two.ensures
