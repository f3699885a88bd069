-- `stocks::expander_pass_stock` meets the page's contract. Assumes nothing.
use Rattle.page_two.proofs.Stocks.{pass-returned}
use Rattle.expander.proofs.stocks.expander_pass_stock.Goals as goal

pub returns : goal.returns
returns c = search pass-returned
