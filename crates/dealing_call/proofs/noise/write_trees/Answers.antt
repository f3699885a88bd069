-- `dealing_call::noise::write_trees` meets its contract. Assumes nothing.
use borrow.Author.Rules.{rules}
use Rattle.dealing_call.proofs.Turns.{turn_start, turn_asks, turn_next}
use Rattle.dealing_call.proofs.noise.write_trees.Goals as goal

pub loop-i-init : goal.loop-i-init
loop-i-init c = turn_start _ _ _ _ _ _ c.requires (search rules)

pub write_tree-at-requires-clause-placed : goal.write_tree-at-requires-clause-placed
write_tree-at-requires-clause-placed c = search turn_asks

pub loop-i-preserved : goal.loop-i-preserved
loop-i-preserved c = search turn_next
