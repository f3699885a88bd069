-- `stock_calls::shares::blocks_of` meets its contract, caller by caller.
use Rattle.std.proofs.Common.{sym}
use Rattle.stock.proofs.Entries.{sum-none}
use Rattle.stock_calls.proofs.Needs.{starts_none, ends-none, total_more, blocks_fit, next_more, end_more, blocks_done}
use Rattle.stock_calls.proofs.shares.blocks_of.Goals as goal

pub loop-k-init : goal.loop-k-init
loop-k-init c = (starts_none _, ends-none _, sym (sum-none _))

pub overflow_add-at : goal.overflow_add-at
overflow_add-at c =
    search blocks_fit

pub loop-k-preserved : goal.loop-k-preserved
loop-k-preserved c = (search next_more, search end_more, search total_more)

pub returns : goal.returns
returns c = search blocks_done
