-- `expander_noise_online` meets the page's contract. Assumes nothing.
use Rattle.page.proofs.Returned.{noise-online-returned}
use Rattle.expander.proofs.expander_noise_online.Goals as goal

pub returns : goal.returns
returns c = search noise-online-returned
