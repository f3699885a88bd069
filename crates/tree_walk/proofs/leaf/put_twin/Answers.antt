-- `tree_walk::leaf::put_twin` meets its contract: two children made, one written, the other returned. Assumes nothing.
use borrow.Author.Rules.{rules}
use Rattle.tree_walk.proofs.Walked.{twin-first, twin-second}
use Rattle.tree_walk.proofs.leaf.put_twin.Goals as goal

pub returns-then-digit-eq0 : goal.returns-then-digit-eq0
returns-then-digit-eq0 c = search (rules, twin-second)

pub returns-else-digit-eq0 : goal.returns-else-digit-eq0
returns-else-digit-eq0 c = search (rules, twin-first)
