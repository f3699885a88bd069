-- `tree_sums::sums::add_element` meets its contract, in either field. Assumes nothing.
use Rattle.tree_sums.proofs.Halves.{element_1, element_2}
use Rattle.tree_sums.proofs.sums.add_element.Goals as goal

pub returns-then-field-eq-BINARY : goal.returns-then-field-eq-BINARY
returns-then-field-eq-BINARY c = search element_1

pub returns-else-field-eq-BINARY : goal.returns-else-field-eq-BINARY
returns-else-field-eq-BINARY c = search element_2
