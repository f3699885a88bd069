-- The round keys of the children passed stand at their places.
use Rattle.tree_walk.proofs.Made.{Made}
use Rattle.tree_walk.proofs.node.child_keys.Given as goal

abbrev pub invariant-loop-c : goal.invariant-loop-c
invariant-loop-c l = Made l.keys l.c
