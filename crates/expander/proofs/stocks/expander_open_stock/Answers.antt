-- `stocks::expander_open_stock` meets the page's contract. Assumes nothing.
use Rattle.page_two.proofs.Stocks.{open_returned}
use Rattle.expander.proofs.stocks.expander_open_stock.Goals as goal

pub returns : goal.returns
returns c = search open_returned
