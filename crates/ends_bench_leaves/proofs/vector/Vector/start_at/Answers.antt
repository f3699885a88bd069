-- `ends_bench_leaves::trees::start_at` meets its contract: the root, or the sibling that the leaf follows from. Assumes nothing.
use Rattle.ends_bench_leaves.proofs.Starts.{root-starts, noise-beside, sibling_starts}
use borrow.Author.Rules.{rules}
use Rattle.ends_bench_leaves.proofs.vector.Vector.start_at.Goals as goal

pub returns-then-self-eq3 : goal.returns-then-self-eq3
returns-then-self-eq3 c = search root-starts

pub from_sibling-requires : goal.from_sibling-requires
from_sibling-requires c = search (rules, noise-beside)

pub returns : goal.returns
returns c = search sibling_starts
