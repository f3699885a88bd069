-- `stock_calls::labels::is_above`: the labels are equal from the bytes passed on.
use Rattle.stock_calls.proofs.LabelOrder.{SameFrom}
use Rattle.stock_calls.proofs.labels.is_above.Given as goal

abbrev pub invariant-loop-at : goal.invariant-loop-at
invariant-loop-at l = SameFrom l.at l.label.bytes l.other.bytes
