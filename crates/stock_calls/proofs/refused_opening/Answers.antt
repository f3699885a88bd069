-- `stock_calls::refused_opening` meets its contract: the entries compute.
use Rattle.stock.specs.Stock.{entries, share_blocks}
use Rattle.stock.specs.Calls.{no_callers}
use Rattle.stock_calls.proofs.refused_opening.Goals as goal

pub returns : goal.returns
unfolding no_callers share_blocks entries
returns c = rw c.number.ensures
