-- Each turn passes a level, and at the end no level is left.
use Rattle.std.proofs.Common.{rules}
use Rattle.tree_walk.proofs.Walked.{going_done, going_level, going_next}
use Rattle.tree_walk.proofs.leaf.walk_from.Goals as goal

pub pass_level-node-requires : goal.pass_level-node-requires
pass_level-node-requires c = search going_level

pub loop-level-preserved : goal.loop-level-preserved
loop-level-preserved c = search (rules, going_next)

pub returns : goal.returns
returns c = going_done _ _ _ _ _ _ _ c.loop-level.invariant (search rules)
