-- `ends_bench_leaves::elements::add_prime` meets its contract. Assumes nothing.
use Rattle.ends_bench_leaves.proofs.Words.{prime-added}
use Rattle.ends_bench_leaves.proofs.elements.add_prime.Goals as goal

pub returns : goal.returns
returns c = search prime-added
