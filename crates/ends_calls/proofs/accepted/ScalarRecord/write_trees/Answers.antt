-- `ends_calls::scalar_trees::write_trees` meets its contract: one law for the loop's start, its turn and its end. Assumes nothing.
use borrow.Author.Rules.{rules}
use Rattle.ends.proofs.scalar.Content.{ready}
use Rattle.tree.proofs.Levels.{leaf-words}
use Rattle.ends_calls.proofs.Added.{root_is, rooted_none, rooted_more, rooted_all}
use Rattle.ends_calls.proofs.accepted.ScalarRecord.write_trees.Goals as goal

pub loop-i-init : goal.loop-i-init
loop-i-init c = search (rooted_none, ready)

pub add_leaves-requires : goal.add_leaves-requires
add_leaves-requires c = (search rules, search leaf-words)

pub loop-i-preserved : goal.loop-i-preserved
loop-i-preserved c = search (rooted_more, root_is)

pub returns : goal.returns
returns c = search rooted_all
