-- `pads_calls::noise_pads` meets its contract: refused by its number, or accepted with the pads written.
use Rattle.answer.proofs.Refusals.{refusal-counts}
use Rattle.pads.proofs.Refused.{noise-refused}
use Rattle.pads_calls.proofs.Outcomes.{noise-fits, noise-accepted}
use Rattle.pads_calls.proofs.noise_pads.Goals as goal

pub returns-in-Err : goal.returns-in-Err
returns-in-Err c = rw c.number.ensures (noise-refused _ _ _ _ _ _ _ c.in-Err.ensures (refusal-counts _))

pub write_pads-requires : goal.write_pads-requires
write_pads-requires c = noise-fits _ _ _ _ _ c.in_default.ensures

pub returns : goal.returns
returns c = noise-accepted _ _ _ _ _ c.in_default.ensures _ c.write_pads.ensures
