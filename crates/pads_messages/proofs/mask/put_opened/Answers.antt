-- `pads_messages::mask::put_opened` meets its contract: the block of the answer that is wanted, masked by the pad.
use Rattle.std.proofs.Common.{rules}
use Rattle.pads.specs.Messages.Calls.{opened_of}
use Rattle.pads_messages.proofs.mask.put_opened.Goals as goal

pub returns : goal.returns
unfolding opened_of
returns c = search rules
