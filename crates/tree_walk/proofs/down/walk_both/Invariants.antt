-- The leaves below both nodes are those below the first two.
use Rattle.std.proofs.Common.{◌≡◌, ◌^◌}
use Rattle.tree.specs.Child.{child_by}
use Rattle.tree.specs.Inner.Keys.{keys_for}
use Rattle.tree.specs.Inner.Nodes.{node_of}
use Rattle.tree.specs.Tree.{leaf_at}
use Rattle.tree_walk.proofs.down.walk_both.Given as goal

abbrev pub invariant-loop-level : goal.invariant-loop-level
invariant-loop-level l =
    (leaf_at (2 ^ l.branch_bits) (child_by (keys_for l.cipher.keys.now)) l.level (node_of l.nodes.one) l.j ≡ leaf_at (2 ^ l.branch_bits) (child_by (keys_for l.cipher.keys.now)) l.left (node_of l.initial.nodes.one) l.j)
    × (leaf_at (2 ^ l.branch_bits) (child_by (keys_for l.cipher.keys.now)) l.level (node_of l.nodes.other) l.j ≡ leaf_at (2 ^ l.branch_bits) (child_by (keys_for l.cipher.keys.now)) l.left (node_of l.initial.nodes.other) l.j)
