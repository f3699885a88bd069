-- `dealing_call::noise::write_planned` meets its contract. Assumes nothing.
use borrow.Author.Rules.{rules}
use Rattle.dealing_call.proofs.Written.{planned-room, planned-wrote}
use Rattle.dealing_call.proofs.noise.write_planned.Goals as goal

pub write_tree_start-requires : goal.write_tree_start-requires
write_tree_start-requires c = (search rules, search planned-room)

pub returns : goal.returns
returns c = search planned-wrote
