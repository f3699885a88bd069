-- The pairs passed are written.
use Rattle.tree.specs.Child.{child_by}
use Rattle.tree.specs.Inner.Keys.{keys_for}
use Rattle.tree.specs.Inner.Nodes.{node_of}
use Rattle.tree_walk.proofs.Walked.{Put}
use Rattle.tree_walk.proofs.leaf.put_children.Given as goal

abbrev pub invariant-loop-pair : goal.invariant-loop-pair
invariant-loop-pair l = Put (child_by (keys_for l.cipher.keys.now)) (node_of l.s) l.from l.at l.initial.out l.pair l.out
