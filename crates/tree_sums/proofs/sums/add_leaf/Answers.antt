-- `tree_sums::sums::add_leaf` meets its contract, in either field. Assumes nothing.
use Rattle.tree.proofs.Nodes.{given-block}
use Rattle.tree_sums.proofs.Halves.{leaf_1, leaf_2}
use Rattle.tree_sums.proofs.sums.add_leaf.Goals as goal

pub returns-then-field-eq-BINARY : goal.returns-then-field-eq-BINARY
returns-then-field-eq-BINARY c = search (leaf_1, given-block)

pub returns-else-field-eq-BINARY : goal.returns-else-field-eq-BINARY
returns-else-field-eq-BINARY c = search (leaf_2, given-block)
