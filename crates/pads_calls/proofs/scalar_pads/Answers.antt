-- `pads_calls::scalar_pads` meets its contract: refused by its number, or accepted with the pads written.
use Rattle.answer.proofs.Refusals.{refusal-counts}
use Rattle.pads.proofs.Refused.{scalar-refused}
use Rattle.pads_calls.proofs.Outcomes.{scalar_fits, scalar-delta, scalar-accepted}
use Rattle.pads_calls.proofs.scalar_pads.Goals as goal

pub returns-in-Err : goal.returns-in-Err
returns-in-Err c = rw c.number.ensures (scalar-refused _ _ _ _ _ _ _ c.in-Err.ensures (refusal-counts _))

pub block_at-d-requires : goal.block_at-d-requires
block_at-d-requires c = scalar-delta _ _ _ _ _ c.in_default.ensures

pub write_both_pads-requires : goal.write_both_pads-requires
write_both_pads-requires c = scalar_fits _ _ _ _ _ c.in_default.ensures

pub returns : goal.returns
returns c = scalar-accepted _ _ _ _ _ c.in_default.ensures _ _ c.block_at-d.ensures c.write_both_pads.ensures
