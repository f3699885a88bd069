-- `ends_calls::noise_trees::write_trees` meets its contract: one law for the loop's start, its turn and its end. Assumes nothing.
use Rattle.tree.proofs.Levels.{leaf-words}
use Rattle.ends_calls.proofs.Added.{tree-punctured, tree-position, passing_none, passing_read, passing_more, passing_mu, passing_v0}
use Rattle.ends_calls.proofs.accepted.NoiseRecord.write_trees.Goals as goal

pub loop-tree-init : goal.loop-tree-init
loop-tree-init c =
    passing_none _ _ c.child_keys-keys.ensures _ (rw c.into_iter-tree-iterator.ensures.into_iter_gives c.trees-tree-items.ensures) c.requires.0 c.requires.1
    c.zero_words.ensures c.zero_words-2.ensures

pub add_punctured-requires : goal.add_punctured-requires
add_punctured-requires c =
    let known = passing_read _ _ c.loop-tree.invariant c.next.new.self c.in-Some.ensures.steps in
    (search tree-punctured, search tree-position, search leaf-words)

pub loop-tree-preserved : goal.loop-tree-preserved
loop-tree-preserved c = passing_more _ _ c.loop-tree.invariant c.next.new.self c.in-Some.ensures.steps c.add_punctured.ensures

pub returns : goal.returns
returns c = (passing_mu _ _ c.loop-tree.invariant c.in-None.ensures.steps.0, passing_v0 _ _ c.loop-tree.invariant c.in-None.ensures.steps.0)
