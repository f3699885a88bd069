-- Both codings keep the laws.
use Rattle.field.proofs.BinaryField.{binary_laws}
use Rattle.prime.proofs.PrimeField.{prime_laws}
use Rattle.code_sums.proofs.accumulation.accumulate_noise.Goals as goal

pub accumulate-requires-clause-coded : goal.accumulate-requires-clause-coded
accumulate-requires-clause-coded c = binary_laws.noise_values

pub accumulate-requires-else-field-eq-BINARY-clause-coded : goal.accumulate-requires-else-field-eq-BINARY-clause-coded
accumulate-requires-else-field-eq-BINARY-clause-coded c = prime_laws.elements
