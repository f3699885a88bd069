-- Each turn writes a pair after those before it.
use borrow.Author.Rules.{rules}
use Rattle.tree_walk.proofs.Walked.{put-none, put_next}
use Rattle.tree_walk.proofs.leaf.put_children.Goals as goal

pub loop-pair-init : goal.loop-pair-init
loop-pair-init c = search put-none

pub loop-pair-preserved : goal.loop-pair-preserved
loop-pair-preserved c = search (rules, put_next)
