-- `tree_fill::tree_fill::add_leaves` meets its contract: all children of the root. Assumes nothing.
use borrow.Author.Rules.{rules}
use Rattle.tree.proofs.Nodes.{given-state, node_of_columns}
use Rattle.tree_fill.proofs.Ranges.{all-range}
use Rattle.tree_fill.proofs.Filled.{all-length, filled-all}
use Rattle.tree_fill.proofs.fill.add_leaves.Goals as goal

pub add_range-requires : goal.add_range-requires
add_range-requires c = rw c.all_children-all.ensures (search (rules, all-range), search (rules, all-length))

pub returns : goal.returns
returns c = let a = rw c.all_children-all.ensures at c.add_range.ensures in search (rules, filled-all, given-state, node_of_columns, a)
