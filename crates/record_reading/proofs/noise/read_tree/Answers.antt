-- `record_reading::noise::read_tree` meets its contract: the fields that were read before a return, and which case the last one was.
-- Assumes nothing.
use Rattle.answer.proofs.Refusals.{passed_on}
use Rattle.record.proofs.Fields.{skip-refused, skip-whole}
use Rattle.record.specs.Reading.{read_items, read_tree}
use Rattle.record_reading.proofs.noise.read_tree.Goals as goal

pub returns-in_err-position-clause-value : goal.returns-in_err-position-clause-value
unfolding read_tree
returns-in_err-position-clause-value c = simp (passed_on c.from_residual.result c.from_residual.ensures.1, ← c.leaves.ensures, ← c.in_err-position.ensures)

pub returns-in_err-value-clause-value : goal.returns-in_err-value-clause-value
unfolding read_tree
returns-in_err-value-clause-value c = simp (passed_on c.from_residual-in_err-value.result c.from_residual-in_err-value.ensures.1, ← c.leaves.ensures, ← c.in_ok-position.ensures, ← c.in_err-value.ensures)

pub returns-in_err-correction-clause-value : goal.returns-in_err-correction-clause-value
unfolding read_tree
returns-in_err-correction-clause-value c = simp (passed_on c.from_residual-in_err-correction.result c.from_residual-in_err-correction.ensures.1, ← c.leaves.ensures, ← c.in_ok-position.ensures, ← c.in_ok-value.ensures, ← c.in_err-correction.ensures.value)

pub returns-in_err-end-clause-value : goal.returns-in_err-end-clause-value
unfolding read_tree read_items
returns-in_err-end-clause-value c =
    let left = skip-refused _ _ _ c.in_err-end.ensures in
    simp (passed_on c.from_residual-in_err-end.result c.from_residual-in_err-end.ensures.1, ← c.leaves.ensures, ← c.in_ok-position.ensures, ← c.in_ok-value.ensures, ← c.in_ok-correction.ensures.value, left.0, left.1)

pub returns-clause-value : goal.returns-clause-value
unfolding read_tree read_items
returns-clause-value c =
    let left = skip-whole _ _ _ c.in_ok-end.ensures in
    simp (← c.leaves.ensures, ← c.in_ok-position.ensures, ← c.in_ok-value.ensures, ← c.in_ok-correction.ensures.value, left.0, left.1)

pub returns-clause-end : goal.returns-clause-end
returns-clause-end c = (skip-whole _ _ _ c.in_ok-end.ensures).1
