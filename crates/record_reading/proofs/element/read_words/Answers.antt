-- `record_reading::element::read_words` meets its contract: the bytes are there or not. Assumes nothing.
use Rattle.answer.proofs.Refusals.{passed_on}
use Rattle.field.proofs.Elements.{at_second}
use Rattle.record.proofs.Fields.{skip-room, words-refused, words-whole}
use Rattle.record_reading.proofs.element.read_words.Goals as goal

pub returns-in_err-next-clause-value : goal.returns-in_err-next-clause-value
returns-in_err-next-clause-value c =
    rw (passed_on c.from_residual.result c.from_residual.ensures.1) (words-refused _ _ _ c.element_length.ensures c.in_err-next.ensures)

pub element_at-requires : goal.element_at-requires
element_at-requires c = rw (← c.element_length.ensures) (skip-room _ _ _ c.in_ok-next.ensures)

pub returns-clause-value : goal.returns-clause-value
returns-clause-value c = words-whole _ _ _ c.element_length.ensures c.in_ok-next.ensures c.element_at.ensures

pub returns-clause-second : goal.returns-clause-second
returns-clause-second c = at_second _ _ _ c.element_at.ensures
