-- `field::element::element_of` meets its contract, field by field. Assumes nothing.
use Rattle.field.proofs.Elements.{of_1, of_2}
use Rattle.field.proofs.element.element_of.Goals as goal

pub returns-then-field-eq-BINARY : goal.returns-then-field-eq-BINARY
returns-then-field-eq-BINARY c = rw c.from.ensures (search of_1)

pub returns-else-field-eq-BINARY : goal.returns-else-field-eq-BINARY
returns-else-field-eq-BINARY c = rw c.from-else-field-eq-BINARY.ensures (search of_2)
