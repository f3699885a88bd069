-- `field::element::is_element` meets its contract, field by field. Assumes nothing.
use Rattle.std.proofs.Common.{◌∙◌, eq-eqb}
use Rattle.field.proofs.Elements.{element_1, element_2}
use Rattle.field.proofs.element.is_element.Goals as goal

pub returns-then-field-eq-BINARY : goal.returns-then-field-eq-BINARY
returns-then-field-eq-BINARY c = eq-eqb _ _ c.if-field-eq-BINARY.true ∙ element_1 _ c.if-field-eq-BINARY.true c.args.a

pub returns-else-field-eq-BINARY : goal.returns-else-field-eq-BINARY
returns-else-field-eq-BINARY c = search element_2
