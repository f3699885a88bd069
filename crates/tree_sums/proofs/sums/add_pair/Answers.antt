-- `tree_sums::sums::add_pair` meets its contract: two children made, then added in either field. Assumes nothing.
use Rattle.std.proofs.Common.{rules}
use Rattle.tree_sums.proofs.Halves.{pair_1, pair_2}
use Rattle.tree_sums.proofs.sums.add_pair.Goals as goal

pub returns-then-field-eq-BINARY : goal.returns-then-field-eq-BINARY
returns-then-field-eq-BINARY c = search (rules, pair_1)

pub returns-else-field-eq-BINARY : goal.returns-else-field-eq-BINARY
returns-else-field-eq-BINARY c = search (rules, pair_2)
