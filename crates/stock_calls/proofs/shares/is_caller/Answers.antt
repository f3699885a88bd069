-- `stock_calls::shares::is_caller` meets its contract, test by test.
use Rattle.std.proofs.Common.{lt-ltb, le-ltb}
use Rattle.stock.specs.Stock.{is_caller}
use Rattle.stock_calls.proofs.shares.is_caller.Goals as goal

pub returns-then-caller-lt8 : goal.returns-then-caller-lt8
unfolding is_caller
returns-then-caller-lt8 c = rw (lt-ltb _ _ c.if-caller-lt8.true)

pub returns-else-caller-lt8 : goal.returns-else-caller-lt8
unfolding is_caller
returns-else-caller-lt8 c = rw (le-ltb _ _ c.if-caller-lt8.false)
