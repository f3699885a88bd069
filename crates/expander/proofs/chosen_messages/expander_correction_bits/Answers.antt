-- `chosen_messages::expander_correction_bits` meets the page's contract. Assumes nothing.
use Rattle.page_two.proofs.Messages.{correction-returned}
use Rattle.expander.proofs.chosen_messages.expander_correction_bits.Goals as goal

pub returns : goal.returns
returns c = search correction-returned
