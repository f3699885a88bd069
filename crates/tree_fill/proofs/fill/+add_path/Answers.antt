-- `tree_fill::tree_fill::add_path` meets its contract: the half of the buffer that holds the position goes on along the path, the other
-- half follows from siblings. The measure is what is left of the depth. Assumes nothing.
use Rattle.tree_fill.proofs.Ranges.{first-falls, first-path, first_run, second-falls, second-path, second_run}
use Rattle.tree_fill.proofs.Filled.{leaf-length, first-front, first_back, second-front, second_back}
use Rattle.tree_fill.proofs.Filled.{filled-correction, filled-first-holds, filled-second-holds}
use Rattle.tree_fill.proofs.fill.+add_path.Goals as goal

pub add_element-requires : goal.add_element-requires
add_element-requires t c = search leaf-length

pub returns-then-path-eq0 : goal.returns-then-path-eq0
returns-then-path-eq0 t c = search filled-correction

pub add_path-requires : goal.add_path-requires
add_path-requires t c = (search first-falls, (search first-path, search first-front))

pub add_run-requires : goal.add_run-requires
add_run-requires t c = (search first_run, search first_back)

pub add_run-requires-else-parts : goal.add_run-requires-else-parts
add_run-requires-else-parts t c = (search second_run, search second-front)

pub add_path-requires-else-parts : goal.add_path-requires-else-parts
add_path-requires-else-parts t c = (search second-falls, (search second-path, search second_back))

pub returns-then-parts : goal.returns-then-parts
returns-then-parts t c = search filled-first-holds

pub returns-else-parts : goal.returns-else-parts
returns-else-parts t c = search filled-second-holds
