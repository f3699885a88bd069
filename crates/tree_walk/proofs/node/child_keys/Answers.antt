-- Each turn stores one child's round keys.
use Rattle.tree_walk.proofs.Made.{made-next, key_below}
use Rattle.tree_walk.proofs.node.child_keys.Goals as goal

pub bounds-keys-c : goal.bounds-keys-c
bounds-keys-c c = search key_below

pub loop-c-preserved : goal.loop-c-preserved
loop-c-preserved c = search (made-next, key_below)
