-- `field::element::put_element` meets its contract, field by field. Assumes nothing.
use Rattle.field.proofs.Elements.{stored_1, stored_2}
use Rattle.field.proofs.element.put_element.Goals as goal

pub returns-then-field-eq-BINARY : goal.returns-then-field-eq-BINARY
returns-then-field-eq-BINARY c = search stored_1

pub returns-else-field-eq-BINARY : goal.returns-else-field-eq-BINARY
returns-else-field-eq-BINARY c = search stored_2
