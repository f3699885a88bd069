-- `stocks::expander_preview` meets the page's contract. Assumes nothing.
use Rattle.page_two.proofs.Stocks.{preview-returned}
use Rattle.expander.proofs.stocks.expander_preview.Goals as goal

pub returns : goal.returns
returns c = search preview-returned
