-- `pads_messages::mask::write_answers` meets its contract, answer by answer.
use Rattle.std.proofs.Common.{arith}
use Rattle.algebra.proofs.Written.{front-none, front_more}
use Rattle.pads.specs.Messages.Bytes.{thirty_two}
use Rattle.pads.proofs.Messages.Turns.{wide-two, mask-bit}
use Rattle.pads_messages.proofs.mask.write_answers.Goals as goal

pub loop-k-init : goal.loop-k-init
loop-k-init c = search front-none

pub put_answer-requires : goal.put_answer-requires
put_answer-requires c = (omega arith, search mask-bit, omega arith, omega arith, omega arith)

pub loop-k-preserved : goal.loop-k-preserved
loop-k-preserved c = front_more thirty_two wide-two _ _ _ _ _ _ (omega arith) (omega arith) c.loop-k.invariant c.put_answer.ensures
