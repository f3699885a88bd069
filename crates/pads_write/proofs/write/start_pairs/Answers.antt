-- `pads_write::write::start_pairs` meets its contract, turn by turn.
use native.Mathlib.Omega.{arith}
use Rattle.algebra.proofs.Written.{front-none}
use Rattle.pads.specs.Bytes.{block_bytes}
use Rattle.pads_write.proofs.Turns.{pairs_started}
use Rattle.pads_write.proofs.write.start_pairs.Goals as goal

pub loop-k-init : goal.loop-k-init
loop-k-init c = front-none block_bytes _ _

pub loop-k-preserved : goal.loop-k-preserved
loop-k-preserved c =
    pairs_started _ _ _ _ _ _ _ _
    c.loop-k-test.true
    (omega arith)
    c.loop-k.invariant
    c.block_at-a.ensures
    c.block_at-b.ensures
    c.start_two.ensures
