-- `field::element::element_scaled` meets its contract, field by field. Assumes nothing.
use Rattle.field.proofs.Elements.{scaled_1, scaled_2}
use Rattle.field.proofs.element.element_scaled.Goals as goal

pub returns-then-field-eq-BINARY : goal.returns-then-field-eq-BINARY
returns-then-field-eq-BINARY c =
    rw c.from.ensures (scaled_1 _ c.if-field-eq-BINARY.true c.args.value c.args.a (rw c.block.ensures at c.scale.ensures))

pub returns-else-field-eq-BINARY : goal.returns-else-field-eq-BINARY
returns-else-field-eq-BINARY c =
    rw c.from-else-field-eq-BINARY.ensures (scaled_2 _ c.if-field-eq-BINARY.false c.args.value c.args.a (rw c.prime.ensures at c.mul.ensures))
