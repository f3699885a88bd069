-- `pads_messages::mask::mask_block` meets its contract: the block of the words' exclusive or is the block masked.
use Rattle.pads.proofs.Messages.Fronts.{put-masked}
use Rattle.pads_messages.proofs.mask.mask_block.Goals as goal

pub returns : goal.returns
returns c = search put-masked
