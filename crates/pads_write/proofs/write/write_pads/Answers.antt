-- `pads_write::write::write_pads` meets its contract: after the pairs at most one pad is left.
use native.Mathlib.Omega.{arith}
use Rattle.pads_write.proofs.Turns.{pads-last}
use Rattle.pads_write.proofs.write.write_pads.Goals as goal

pub returns-then-k-count : goal.returns-then-k-count
returns-then-k-count c = pads-last _ _ _ _ _ _ _ _ _
    (omega arith)
    (omega arith)
    c.requires.outputs
    c.write_pairs.ensures
    c.block_at-a.ensures
    c.one_pad-p.ensures
    c.put_block.ensures
