-- `field::element::element_sum` meets its contract, field by field. Assumes nothing.
use Rattle.field.proofs.Elements.{sum_1, sum_2}
use Rattle.field.proofs.element.element_sum.Goals as goal

pub returns-then-field-eq-BINARY : goal.returns-then-field-eq-BINARY
returns-then-field-eq-BINARY c =
    rw c.from.ensures
    (sum_1 _ c.if-field-eq-BINARY.true c.args.a c.args.b (rw (c.block.ensures, c.block-then-field-eq-BINARY.ensures) at c.add.ensures))

pub returns-else-field-eq-BINARY : goal.returns-else-field-eq-BINARY
returns-else-field-eq-BINARY c =
    rw c.from-else-field-eq-BINARY.ensures
    (sum_2 _ c.if-field-eq-BINARY.false c.args.a c.args.b (rw (c.prime.ensures, c.prime-else-field-eq-BINARY.ensures) at c.add-else-field-eq-BINARY.ensures))
