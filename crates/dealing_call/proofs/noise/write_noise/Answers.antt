-- `dealing_call::noise::write_noise` meets its contract: the head, then the trees. Assumes nothing.
use borrow.Author.Rules.{rules}
use Rattle.dealing_call.proofs.Turns.{noise-head, noise-key, noise-label, noise-trees, noise-wrote}
use Rattle.dealing_call.proofs.noise.write_noise.Goals as goal

pub write_head-requires : goal.write_head-requires
write_head-requires c = (search rules, search noise-key, search noise-label, search noise-head)

pub write_trees-requires : goal.write_trees-requires
write_trees-requires c = search noise-trees

pub returns : goal.returns
returns c = search noise-wrote
