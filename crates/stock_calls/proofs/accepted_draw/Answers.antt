-- `stock_calls::accepted_draw` meets its contract.
use Rattle.std.proofs.Common.{rules}
use Rattle.stock.proofs.Calls.{taken_is}
use Rattle.stock_calls.proofs.Needs.{taken-below, taken_offset, taken-count, taken-fits}
use Rattle.stock_calls.proofs.accepted_draw.Goals as goal

pub offset_bounds-stock-caller : goal.offset_bounds-stock-caller
offset_bounds-stock-caller c = search taken_offset

pub bounds-stock-caller : goal.bounds-stock-caller
bounds-stock-caller c = search taken-below

pub overflow_cast-after : goal.overflow_cast-after
overflow_cast-after c = search (taken-count, rules)

pub overflow_add-after : goal.overflow_add-after
overflow_add-after c = search (taken-fits, rules)

pub offset_bounds-after-caller : goal.offset_bounds-after-caller
offset_bounds-after-caller c = search taken_offset

pub bounds-after-caller : goal.bounds-after-caller
bounds-after-caller c = search taken-below

pub returns : goal.returns
returns c = search taken_is
