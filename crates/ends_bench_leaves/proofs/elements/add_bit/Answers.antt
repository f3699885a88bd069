-- `ends_bench_leaves::elements::add_bit` meets its contract. Assumes nothing.
use Rattle.ends_bench_leaves.proofs.Words.{bit_added}
use Rattle.ends_bench_leaves.proofs.elements.add_bit.Goals as goal

pub returns : goal.returns
returns c = search bit_added
