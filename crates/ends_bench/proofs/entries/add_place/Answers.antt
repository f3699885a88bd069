-- `ends_bench::entries::add_place` meets its contract. Assumes nothing.
use Rattle.ends_bench.proofs.Rows.{summed-none, summed_more, summed-all}
use Rattle.ends_bench.proofs.entries.add_place.Goals as goal

pub loop-k-init : goal.loop-k-init
loop-k-init c = search summed-none

pub loop-k-preserved : goal.loop-k-preserved
loop-k-preserved c = search summed_more

pub returns : goal.returns
returns c = search summed-all
