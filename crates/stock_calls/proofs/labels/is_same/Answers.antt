-- `stock_calls::labels::is_same` meets its contract: labels are the same exactly if their numbers are.
use Rattle.std.proofs.Common.{rules, ◌∙◌}
use Rattle.stock_calls.proofs.LabelOrder.{label-same}
use Rattle.stock_calls.proofs.labels.is_same.Goals as goal

pub returns : goal.returns
returns c = c.eq.ensures ∙ search (label-same, rules)
