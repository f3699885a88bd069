-- `record::writing::scalar_length` meets its contract. Assumes nothing.
use Rattle.record.proofs.Lengths.{scalar-sum-fits_2, scalar-sum}
use Rattle.record.proofs.writing.scalar_length.Goals as goal

pub overflow_add-result-2 : goal.overflow_add-result-2
overflow_add-result-2 c = search scalar-sum-fits_2

pub returns : goal.returns
returns c = search scalar-sum
