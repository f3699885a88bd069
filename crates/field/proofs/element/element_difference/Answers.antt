-- `field::element::element_difference` meets its contract, field by field. Assumes nothing.
use Rattle.field.proofs.Elements.{difference_1, difference_2}
use Rattle.field.proofs.element.element_difference.Goals as goal

pub returns-then-field-eq-BINARY : goal.returns-then-field-eq-BINARY
returns-then-field-eq-BINARY c =
    rw c.from.ensures
    (difference_1 _ c.if-field-eq-BINARY.true c.args.a c.args.b (rw (c.block.ensures, c.block-then-field-eq-BINARY.ensures) at c.sub.ensures))

pub returns-else-field-eq-BINARY : goal.returns-else-field-eq-BINARY
returns-else-field-eq-BINARY c =
    rw c.from-else-field-eq-BINARY.ensures
    (difference_2 _ c.if-field-eq-BINARY.false c.args.a c.args.b (rw (c.prime.ensures, c.prime-else-field-eq-BINARY.ensures) at c.sub-else-field-eq-BINARY.ensures))
