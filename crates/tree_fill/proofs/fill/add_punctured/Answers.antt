-- `tree_fill::tree_fill::add_punctured` meets its contract: the path from the root. Assumes nothing.
use borrow.Author.Rules.{rules}
use native.Mathlib.Omega.{arith}
use Rattle.tree_fill.proofs.Ranges.{whole-path}
use Rattle.tree_fill.proofs.Filled.{all-length, filled-tree}
use Rattle.tree_fill.proofs.fill.add_punctured.Goals as goal

pub add_path-requires : goal.add_path-requires
add_path-requires c = rw c.all_children.ensures (whole-path _ _ (search rules) (search rules) (omega arith), search (rules, all-length))

pub returns : goal.returns
returns c = let a = rw c.all_children.ensures at c.add_path.ensures in search (rules, filled-tree, a)
