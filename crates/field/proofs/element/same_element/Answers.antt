-- `field::element::same_element` meets its contract, field by field. Assumes nothing.
use Rattle.std.proofs.Common.{ne_eqb}
use Rattle.field.proofs.Elements.{low_differs, compared_1, compared_2}
use Rattle.field.proofs.element.same_element.Goals as goal

pub returns-then-field-ne-BINARY : goal.returns-then-field-ne-BINARY
returns-then-field-ne-BINARY c = rw (ne_eqb _ _ c.if-field-ne-BINARY.true) (search compared_2)

pub returns-else-field-ne-BINARY : goal.returns-else-field-ne-BINARY
returns-else-field-ne-BINARY c = search compared_1

pub returns-else-a-b : goal.returns-else-a-b
returns-else-a-b c = rw (ne_eqb _ _ c.if-a-b.false) (search low_differs)
