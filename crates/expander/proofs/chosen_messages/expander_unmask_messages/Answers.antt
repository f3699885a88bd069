-- `chosen_messages::expander_unmask_messages` meets the page's contract. Assumes nothing.
use Rattle.page_two.proofs.Messages.{unmask-returned}
use Rattle.expander.proofs.chosen_messages.expander_unmask_messages.Goals as goal

pub returns : goal.returns
returns c = search unmask-returned
