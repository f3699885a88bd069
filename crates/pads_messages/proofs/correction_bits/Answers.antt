-- `pads_messages::correction_bits` meets its contract: refused by its number, or accepted with the bits written.
use Rattle.std.proofs.Common.{refl, length}
use Rattle.answer.proofs.Answers.{accepted_now}
use Rattle.answer.proofs.Faults.{admitted_by}
use Rattle.answer.proofs.Refusals.{refusal-counts}
use Rattle.pads.specs.Messages.Calls.{correction_tests, correction_bits}
use Rattle.pads.proofs.Messages.Accepts.{by_length}
use Rattle.pads.proofs.Messages.Refused.{correction-refused}
use Rattle.pads_messages.proofs.correction_bits.Goals as goal

pub returns-in-Err : goal.returns-in-Err
returns-in-Err c = rw c.refused.ensures (correction-refused _ _ (refusal-counts _) _ c.in-Err.ensures)

pub write_bits-requires : goal.write_bits-requires
write_bits-requires c =
    let a = admitted_by _ 0 refl c.in_default.ensures refl in
    by_length (λ n. correction_tests n c.args.choices.now c.args.wanted.now (length c.args.bits_out.now)) a.all.1.0 a

pub returns : goal.returns
unfolding correction_bits
returns c =
    let a = admitted_by _ 0 refl c.in_default.ensures refl in
    accepted_now _ _ _ _ c.in_default.ensures (rw (c.write_bits.ensures, a.all.1.0))
