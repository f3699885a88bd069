-- `pads_messages::mask::put_answer` meets its contract: the answer is written as its two blocks.
use Rattle.pads.proofs.Messages.Turns.{answer-both}
use Rattle.pads_messages.proofs.mask.put_answer.Goals as goal

pub returns : goal.returns
returns c = search answer-both
