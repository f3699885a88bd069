-- Each turn goes one level down.
use Rattle.std.proofs.Common.{arith}
use Rattle.tree_walk.proofs.Ways.{level_down}
use Rattle.tree_walk.proofs.down.walk_to.Goals as goal

pub loop-level-preserved : goal.loop-level-preserved
loop-level-preserved c = (omega arith, search level_down)
