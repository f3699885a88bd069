-- The leaf below the node is the one below the first.
use Rattle.std.proofs.Common.{◌≡◌, ◌^◌, ◌≤◌}
use Rattle.tree.specs.Child.{child_by}
use Rattle.tree.specs.Inner.Keys.{keys_for}
use Rattle.tree.specs.Inner.Nodes.{node_of}
use Rattle.tree.specs.Tree.{leaf_at}
use Rattle.tree_walk.proofs.down.walk_to.Given as goal

abbrev pub invariant-loop-level : goal.invariant-loop-level
invariant-loop-level l =
    (l.stop ≤ l.level)
    × (leaf_at (2 ^ l.branch_bits) (child_by (keys_for l.cipher.keys.now)) l.level (node_of l.node) l.j ≡ leaf_at (2 ^ l.branch_bits) (child_by (keys_for l.cipher.keys.now)) l.left (node_of l.initial.node) l.j)
