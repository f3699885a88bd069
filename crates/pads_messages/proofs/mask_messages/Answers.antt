-- `pads_messages::mask_messages` meets its contract: refused by its number, or accepted with the answers written.
use Rattle.std.proofs.Common.{refl, length}
use Rattle.answer.proofs.Answers.{accepted_now}
use Rattle.answer.proofs.Faults.{admitted_by}
use Rattle.answer.proofs.Refusals.{refusal-counts}
use Rattle.pads.specs.Messages.Calls.{mask_tests, mask_messages}
use Rattle.pads.proofs.Messages.Accepts.{by_length, mask_fit}
use Rattle.pads.proofs.Messages.Refused.{mask-refused}
use Rattle.pads_messages.proofs.mask_messages.Goals as goal

pub returns-in-Err : goal.returns-in-Err
returns-in-Err c = rw c.refused.ensures (mask-refused _ _ (refusal-counts _) _ c.in-Err.ensures)

pub write_answers-requires : goal.write_answers-requires
write_answers-requires c =
    let a = admitted_by _ 0 refl c.in_default.ensures refl in
    by_length (λ n. mask_tests n c.args.bits.now c.args.pads.now c.args.messages.now (length c.args.answers_out.now)) a.all.1.0 a

pub overflow_mul-result : goal.overflow_mul-result
overflow_mul-result c = mask_fit _ _ _ _ _ 0 c.in_default.ensures refl

pub returns : goal.returns
unfolding mask_messages
returns c =
    let a = admitted_by _ 0 refl c.in_default.ensures refl in
    accepted_now _ _ _ _ c.in_default.ensures (rw (c.write_answers.ensures, a.all.1.0))
