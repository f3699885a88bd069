-- `record::writing::head_length` meets its contract. Assumes nothing.
use Rattle.record.proofs.Lengths.{two_fit, three_fit, sizes_fit, two-sizes_fit, body-fits, head-sum}
use Rattle.record.proofs.writing.head_length.Goals as goal

pub overflow_add-up_to_trees : goal.overflow_add-up_to_trees
overflow_add-up_to_trees c = search two_fit

pub overflow_add-up_to_trees-2 : goal.overflow_add-up_to_trees-2
overflow_add-up_to_trees-2 c = search three_fit

pub overflow_add-from_terms : goal.overflow_add-from_terms
overflow_add-from_terms c = search two_fit

pub overflow_add-result : goal.overflow_add-result
overflow_add-result c = search sizes_fit

pub overflow_add-result-2 : goal.overflow_add-result-2
overflow_add-result-2 c = search two-sizes_fit

pub overflow_add-result-3 : goal.overflow_add-result-3
overflow_add-result-3 c = search body-fits

pub returns : goal.returns
returns c = search head-sum
