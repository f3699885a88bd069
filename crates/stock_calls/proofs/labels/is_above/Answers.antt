-- `stock_calls::labels::is_above` meets its contract, byte by byte from the last one down.
use Rattle.std.proofs.Common.{rules}
use Rattle.stock_calls.proofs.LabelOrder.{label-starts, label_decides, label_goes_on, label-equal}
use Rattle.stock_calls.proofs.labels.is_above.Goals as goal

pub loop-at-init : goal.loop-at-init
loop-at-init c = search (label-starts, rules)

pub returns-then-a-b : goal.returns-then-a-b
returns-then-a-b c = search (label_decides, rules)

pub loop-at-preserved : goal.loop-at-preserved
loop-at-preserved c = search (label_goes_on, rules)

pub returns : goal.returns
returns c = search label-equal
