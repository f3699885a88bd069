-- `field::noise::noise_sum` meets its contract, field by field. Assumes nothing.
use Rattle.field.proofs.Elements.{noise-sum_1, noise-sum_2}
use Rattle.field.proofs.noise.noise_sum.Goals as goal

pub returns-then-field-eq-BINARY : goal.returns-then-field-eq-BINARY
returns-then-field-eq-BINARY c = search noise-sum_1

pub returns-else-field-eq-BINARY : goal.returns-else-field-eq-BINARY
returns-else-field-eq-BINARY c = search noise-sum_2
