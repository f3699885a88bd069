-- `tree_walk::leaf::pass_level` meets its contract: the children up to the pair of the one named, then the children after it. Assumes
-- nothing.
use native.Mathlib.Omega.{arith}
use borrow.Author.Rules.{rules}
use Rattle.tree_walk.proofs.Walked.{other-room, level-passed}
use Rattle.tree_walk.proofs.leaf.pass_level.Goals as goal

pub put_before-next-requires : goal.put_before-next-requires
put_before-next-requires c = (omega arith, search (rules, other-room))

pub returns : goal.returns
returns c = search level-passed
