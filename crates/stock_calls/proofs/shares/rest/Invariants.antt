-- `stock_calls::shares::rest`: what the callers passed hold, and zeros past them.
use Rattle.std.proofs.Common.{◌≡◌}
use Rattle.stock.specs.Stock.{remaining, entries}
use Rattle.stock_calls.proofs.shares.rest.Given as goal

abbrev pub invariant-loop-caller : goal.invariant-loop-caller
invariant-loop-caller l = l.each ≡ entries l.caller (remaining l.stock)
