-- `chosen_messages::expander_mask_messages` meets the page's contract. Assumes nothing.
use Rattle.page_two.proofs.Messages.{mask-returned}
use Rattle.expander.proofs.chosen_messages.expander_mask_messages.Goals as goal

pub returns : goal.returns
returns c = search mask-returned
