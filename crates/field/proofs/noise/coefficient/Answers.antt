-- `field::noise::coefficient` meets its contract, field by field. Assumes nothing.
use Rattle.field.proofs.Elements.{coefficient_1, coefficient_2}
use Rattle.field.proofs.noise.coefficient.Goals as goal

pub returns-then-field-eq-BINARY : goal.returns-then-field-eq-BINARY
returns-then-field-eq-BINARY c = search coefficient_1

pub returns-else-field-eq-BINARY : goal.returns-else-field-eq-BINARY
returns-else-field-eq-BINARY c = search coefficient_2
