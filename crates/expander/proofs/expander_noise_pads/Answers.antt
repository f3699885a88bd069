-- `expander_noise_pads` meets the page's contract. Assumes nothing.
use Rattle.page.proofs.Returned.{noise-pads-returned}
use Rattle.expander.proofs.expander_noise_pads.Goals as goal

pub returns : goal.returns
returns c = search noise-pads-returned
