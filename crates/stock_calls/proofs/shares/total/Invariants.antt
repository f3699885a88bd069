-- `stock_calls::shares::total`: the sum is that of the shares passed.
use Rattle.std.proofs.Common.{◌≡◌, ◌≤◌, ◌*◌}
use Rattle.stock.specs.Stock.{sum_of}
use Rattle.stock.specs.Calls.{opening_share}
use Rattle.stock_calls.proofs.shares.total.Given as goal

abbrev pub invariant-loop-share : goal.invariant-loop-share
invariant-loop-share l = (l.sum ≡ sum_of l.share-index (opening_share l.fn.shares)) × (l.sum ≤ 4294967295 * l.share-index)
