-- `tree_walk::columns::node_at` meets its contract: two words. Assumes nothing.
use native.Mathlib.Omega.{arith}
use borrow.Author.Rules.{rules}
use Rattle.tree.proofs.Nodes.{node_at}
use Rattle.tree_walk.proofs.columns.node_at.Goals as goal

pub returns : goal.returns
returns c = node_at _ _ (λ i. omega (arith, c.type_inv.bytes i)) (search rules) (search rules)
