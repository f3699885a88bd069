-- `field::element::element_at` meets its contract, field by field. Assumes nothing.
use Rattle.std.proofs.Common.{refl}
use Rattle.field.proofs.Elements.{at_1, at_2}
use Rattle.field.proofs.element.element_at.Goals as goal

pub returns-then-field-eq-BINARY : goal.returns-then-field-eq-BINARY
returns-then-field-eq-BINARY c = rw (c.from.ensures, c.read.ensures) (at_1 _ c.if-field-eq-BINARY.true _ _ refl refl)

pub returns-else-field-eq-BINARY : goal.returns-else-field-eq-BINARY
returns-else-field-eq-BINARY c = rw c.from-else-field-eq-BINARY.ensures (search at_2)
