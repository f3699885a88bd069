-- `stock_calls::preview` meets its contract: it is the draw's answer.
use Rattle.stock.proofs.Calls.{preview_is}
use Rattle.stock_calls.proofs.preview.Goals as goal

pub returns : goal.returns
returns c = search preview_is
