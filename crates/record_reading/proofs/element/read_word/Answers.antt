-- `record_reading::element::read_word` meets its contract: the bytes are there or not. Assumes nothing.
use Rattle.answer.proofs.Refusals.{passed_on}
use Rattle.record.proofs.Fields.{field-refused, field-whole, skip-room}
use Rattle.record_reading.proofs.element.read_word.Goals as goal

pub returns-in_err-next : goal.returns-in_err-next
returns-in_err-next c = rw (passed_on c.from_residual.result c.from_residual.ensures.1) (field-refused 8 _ _ _ c.in_err-next.ensures)

pub word_at-requires : goal.word_at-requires
word_at-requires c = skip-room 8 _ _ c.in_ok-next.ensures

pub returns : goal.returns
returns c = rw c.word_at.ensures (field-whole 8 _ _ _ c.in_ok-next.ensures)
