-- `tree_fill::range::path_in` meets its contract. Assumes nothing.
use borrow.Author.Rules.{rules}
use Rattle.tree_fill.proofs.Ranges.{is_child, is_half}
use Rattle.tree_fill.proofs.range.path_in.Goals as goal

pub returns-then-range-eq1 : goal.returns-then-range-eq1
returns-then-range-eq1 c = search (rules, is_child)

pub returns-else-range-eq1 : goal.returns-else-range-eq1
returns-else-range-eq1 c = search (rules, is_half)
