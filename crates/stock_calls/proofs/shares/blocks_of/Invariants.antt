-- `stock_calls::shares::blocks_of`: the blocks of the callers passed, and where the next one begins.
use Rattle.std.proofs.Common.{◌≡◌}
use Rattle.stock.specs.Stock.{sum_of}
use Rattle.stock.specs.Calls.{opening_share}
use Rattle.stock_calls.specs.Inner.Steps.{starts, ends}
use Rattle.stock_calls.proofs.shares.blocks_of.Given as goal

abbrev pub invariant-loop-k : goal.invariant-loop-k
invariant-loop-k l = (l.next ≡ starts l.k l.shares) × (l.end ≡ ends l.k l.shares) × (l.at ≡ sum_of l.k (opening_share l.shares))
