-- `expander_deal` meets the page's contract. Assumes nothing.
use Rattle.page.proofs.Returned.{dealt}
use Rattle.expander.proofs.expander_deal.Goals as goal

pub returns : goal.returns
returns c = search dealt
