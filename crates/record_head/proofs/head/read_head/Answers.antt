-- `record_head::head::read_head` meets its contract: the field, then the sizes. Assumes nothing.
use Rattle.answer.proofs.Refusals.{passed_on}
use Rattle.record.specs.Reading.{read_head}
use Rattle.record_head.proofs.head.read_head.Goals as goal

pub returns-in_err-field : goal.returns-in_err-field
unfolding read_head
returns-in_err-field c = rw (passed_on c.from_residual.result c.from_residual.ensures.1, ← c.in_err-field.ensures)

pub returns : goal.returns
unfolding read_head
returns c = rw (← c.in_ok-field.ensures) c.read_sizes.ensures
