-- `ends_calls::noise_trees::tree_at` meets its contract: a tree that was read whole passed its tests. Assumes nothing.
use native.Mathlib.Omega.{arith}
use borrow.Author.Rules.{rules}
use Rattle.ends_calls.proofs.Added.{tree-read}
use Rattle.ends_calls.proofs.noise_trees.tree_at.Goals as goal

pub returns : goal.returns
returns c = tree-read _ _ _ _ _ _ (search rules) (search rules) (omega arith) (search rules)
