-- `record::writing::tree_start_length` meets its contract. Assumes nothing.
use Rattle.record.proofs.Lengths.{number_fits, tree-start-sum}
use Rattle.record.proofs.writing.tree_start_length.Goals as goal

pub overflow_add-result : goal.overflow_add-result
overflow_add-result c = search number_fits

pub returns : goal.returns
returns c = search tree-start-sum
