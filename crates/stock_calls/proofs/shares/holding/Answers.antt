-- `stock_calls::shares::holding` meets its contract: nothing where there is no such caller or its next index is above its end.
use Rattle.std.proofs.Common.{◌∙◌}
use Rattle.stock_calls.proofs.Needs.{caller_below, caller_fits, holds-none, holds-rest}
use Rattle.stock_calls.proofs.shares.holding.Goals as goal

pub returns-then-not-is_caller : goal.returns-then-not-is_caller
returns-then-not-is_caller c = search holds-none

pub offset_bounds-stock-caller : goal.offset_bounds-stock-caller
offset_bounds-stock-caller c = search caller_fits

pub bounds-stock-caller : goal.bounds-stock-caller
bounds-stock-caller c = search caller_below

pub offset_bounds-stock-caller-2 : goal.offset_bounds-stock-caller-2
offset_bounds-stock-caller-2 c = search caller_fits

pub bounds-stock-caller-2 : goal.bounds-stock-caller-2
bounds-stock-caller-2 c = search caller_below

pub returns : goal.returns
returns c = c.saturating_sub.ensures ∙ search holds-rest
