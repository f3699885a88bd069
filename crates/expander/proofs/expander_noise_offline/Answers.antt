-- `expander_noise_offline` meets the page's contract. Assumes nothing.
use Rattle.page.proofs.Returned.{noise-offline-returned}
use Rattle.expander.proofs.expander_noise_offline.Goals as goal

pub returns : goal.returns
returns c = search noise-offline-returned
