-- `stock_calls::shares::rest` meets its contract, caller by caller.
use Rattle.std.proofs.Common.{arith}
use Rattle.stock.proofs.Entries.{entries_none}
use Rattle.stock_calls.proofs.Needs.{rest_more}
use Rattle.stock_calls.proofs.shares.rest.Goals as goal

pub loop-caller-init : goal.loop-caller-init
loop-caller-init c = entries_none _

pub loop-caller-preserved : goal.loop-caller-preserved
loop-caller-preserved c = rest_more _ _ _ (omega arith) c.holding.ensures c.loop-caller.invariant
