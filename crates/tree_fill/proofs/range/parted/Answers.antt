-- `tree_fill::range::parted` meets its contract: by where the position lies. Assumes nothing.
use borrow.Author.Rules.{rules}
use Rattle.tree_fill.proofs.Ranges.{first_holds, second_holds}
use Rattle.tree_fill.proofs.range.parted.Goals as goal

pub returns-then-position-half : goal.returns-then-position-half
returns-then-position-half c = search (rules, first_holds)

pub returns-else-position-half : goal.returns-else-position-half
returns-else-position-half c = search (rules, second_holds)
