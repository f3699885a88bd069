-- The walk from the node reached gives what the whole walk gives.
use Rattle.tree.specs.Child.{child_by}
use Rattle.tree.specs.Inner.Keys.{keys_for}
use Rattle.tree.specs.Inner.Nodes.{node_of}
use Rattle.tree_walk.proofs.Walked.{Going}
use Rattle.tree_walk.proofs.leaf.walk_from.Given as goal

abbrev pub invariant-loop-level : goal.invariant-loop-level
invariant-loop-level l =
    Going (child_by (keys_for l.cipher.keys.now)) (node_of l.initial.node) l.branch_bits l.fn.tree.levels l.position l.initial.at l.initial.out l.count (node_of l.node) l.level l.at l.out
