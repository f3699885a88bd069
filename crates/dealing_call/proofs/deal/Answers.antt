-- `dealing_call::deal` meets its contract: refused by its number, or accepted with both records written. Assumes nothing.
use Rattle.answer.proofs.Answers.{answers-two}
use Rattle.answer.proofs.Refusals.{refusal-some}
use Rattle.dealing.proofs.Laws.{deal-refused}
use Rattle.dealing_call.proofs.Deals.{noise-placed, scalar-placed, deal_done}
use Rattle.dealing_call.proofs.deal.Goals as goal

pub returns-in-Err : goal.returns-in-Err
returns-in-Err c = answers-two c.refused.ensures (deal-refused _ _ _ c.in-Err.ensures (refusal-some _))

pub write_noise-noise_bytes-requires : goal.write_noise-noise_bytes-requires
write_noise-noise_bytes-requires c = noise-placed _ _ _ _ _ _ _ _ _ c.in_default.ensures c.head_length.ensures

pub write_scalar_part-scalar_bytes-requires : goal.write_scalar_part-scalar_bytes-requires
write_scalar_part-scalar_bytes-requires c = scalar-placed _ _ _ _ _ _ _ _ _ c.in_default.ensures c.head_length.ensures

pub returns : goal.returns
returns c = deal_done _ _ _ c.in_default.ensures c.write_noise-noise_bytes.ensures c.write_scalar_part-scalar_bytes.ensures
