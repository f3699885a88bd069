-- `tree_walk::down::from_sibling` meets its contract: a child beside the path's own, or a level further down. The measure is the levels.
-- Assumes nothing.
use native.Mathlib.Omega.{arith}
use Rattle.tree_walk.proofs.Ways.{low-start, high-start, next_start, next-from}
use Rattle.tree_walk.proofs.down.+from_sibling.Goals as goal

pub returns-then-child-own : goal.returns-then-child-own
returns-then-child-own t c = search low-start

pub returns-then-own-child : goal.returns-then-own-child
returns-then-own-child t c = search high-start

pub from_sibling-requires : goal.from_sibling-requires
from_sibling-requires t c = (omega arith, search next_start)

pub returns : goal.returns
returns t c = search next-from
