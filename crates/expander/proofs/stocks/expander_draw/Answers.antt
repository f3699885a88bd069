-- `stocks::expander_draw` meets the page's contract. Assumes nothing.
use Rattle.page_two.proofs.Stocks.{draw-returned}
use Rattle.expander.proofs.stocks.expander_draw.Goals as goal

pub returns : goal.returns
returns c = search draw-returned
