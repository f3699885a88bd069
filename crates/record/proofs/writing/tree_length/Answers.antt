-- `record::writing::tree_length` meets its contract. Assumes nothing.
use Rattle.record.proofs.Lengths.{tree-fits, tree-sum, tree-most}
use Rattle.record.proofs.writing.tree_length.Goals as goal

pub overflow_add-result : goal.overflow_add-result
overflow_add-result c = tree-fits _ _ c.tree_start_length.ensures c.sibling_count.ensures

pub returns : goal.returns
returns c = (
  tree-sum _ _ c.tree_start_length.ensures _ c.sibling_count.ensures,
  tree-most _ _ c.tree_start_length.ensures c.sibling_count.ensures,
)
