-- Each turn goes one level down from both nodes, and at the end no level is left.
use Rattle.tree_walk.proofs.Ways.{level_down, leaf_last}
use Rattle.tree_walk.proofs.down.walk_both.Goals as goal

pub loop-level-preserved : goal.loop-level-preserved
loop-level-preserved c = (search level_down, search level_down)

pub returns : goal.returns
returns c = (search leaf_last, search leaf_last)
