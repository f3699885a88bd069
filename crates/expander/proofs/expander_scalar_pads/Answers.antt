-- `expander_scalar_pads` meets the page's contract. Assumes nothing.
use Rattle.page.proofs.Returned.{scalar-pads-returned}
use Rattle.expander.proofs.expander_scalar_pads.Goals as goal

pub returns : goal.returns
returns c = search scalar-pads-returned
