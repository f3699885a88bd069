-- `layer_sums::expander_add` meets the page's contract. Assumes nothing.
use Rattle.page_two.proofs.Layers.{add-returned}
use Rattle.expander.proofs.layer_sums.expander_add.Goals as goal

pub returns : goal.returns
returns c = search add-returned
