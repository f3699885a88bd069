-- `stock_calls::shares::total` meets its contract, share by share.
use Rattle.std.proofs.Common.{arith, rules, sym}
use Rattle.stock.proofs.Entries.{sum-none}
use Rattle.stock_calls.proofs.Needs.{total_bound, total_more}
use Rattle.stock_calls.proofs.shares.total.Goals as goal

pub loop-share-init : goal.loop-share-init
loop-share-init c = (sym (sum-none _), omega arith)

pub loop-share-preserved : goal.loop-share-preserved
loop-share-preserved c = (total_more _ _ _ c.loop-share.invariant.0, search (total_bound, rules))
