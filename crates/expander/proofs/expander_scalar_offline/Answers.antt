-- `expander_scalar_offline` meets the page's contract. Assumes nothing.
use Rattle.page.proofs.Returned.{scalar-offline-returned}
use Rattle.expander.proofs.expander_scalar_offline.Goals as goal

pub returns : goal.returns
returns c = search scalar-offline-returned
