-- `pads_messages::unmask_messages` meets its contract: refused by its number, or accepted with the messages written.
use Rattle.std.proofs.Common.{refl, length}
use Rattle.answer.proofs.Answers.{accepted_now}
use Rattle.answer.proofs.Faults.{admitted_by}
use Rattle.answer.proofs.Refusals.{refusal-counts}
use Rattle.pads.specs.Messages.Calls.{unmask_tests, unmask_messages}
use Rattle.pads.proofs.Messages.Accepts.{by_length, unmask_fit}
use Rattle.pads.proofs.Messages.Refused.{unmask-refused}
use Rattle.pads_messages.proofs.unmask_messages.Goals as goal

pub returns-in-Err : goal.returns-in-Err
returns-in-Err c = rw c.refused.ensures (unmask-refused _ _ (refusal-counts _) _ c.in-Err.ensures)

pub write_opened-requires : goal.write_opened-requires
write_opened-requires c =
    let a = admitted_by _ 0 refl c.in_default.ensures refl in
    by_length (λ n. unmask_tests n c.args.wanted.now c.args.pads.now c.args.answers.now (length c.args.messages_out.now)) a.all.1.0 a

pub overflow_mul-result : goal.overflow_mul-result
overflow_mul-result c = unmask_fit _ _ _ _ _ 0 c.in_default.ensures refl

pub returns : goal.returns
unfolding unmask_messages
returns c =
    let a = admitted_by _ 0 refl c.in_default.ensures refl in
    accepted_now _ _ _ _ c.in_default.ensures (rw (c.write_opened.ensures, a.all.1.0))
