-- `expander_scalar_online` meets the page's contract. Assumes nothing.
use Rattle.page.proofs.Returned.{scalar-online-returned}
use Rattle.expander.proofs.expander_scalar_online.Goals as goal

pub returns : goal.returns
returns c = search scalar-online-returned
