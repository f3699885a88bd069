-- `dealing_call::noise::write_tree` meets its contract: the siblings, then what stands before them. Assumes nothing.
use borrow.Author.Rules.{rules}
use Rattle.dealing_call.proofs.Written.{siblings_fit, next_fits, walk-room, tree-start-room, tree-wrote}
use Rattle.dealing_call.proofs.noise.write_tree.Goals as goal

pub overflow_add-siblings : goal.overflow_add-siblings
overflow_add-siblings c = search siblings_fit

pub overflow_add-next : goal.overflow_add-next
overflow_add-next c = search next_fits

pub walk-leaf-requires : goal.walk-leaf-requires
walk-leaf-requires c = search walk-room

pub write_planned-requires : goal.write_planned-requires
write_planned-requires c = (search rules, search rules, search rules, search tree-start-room)

pub returns : goal.returns
returns c = search tree-wrote
