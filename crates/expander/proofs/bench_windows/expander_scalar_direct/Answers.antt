-- `bench_windows::expander_scalar_direct` meets the page's contract. Assumes nothing.
use Rattle.page_two.proofs.Bench.{scalar_direct_returned}
use Rattle.expander.proofs.bench_windows.expander_scalar_direct.Goals as goal

pub returns : goal.returns
returns c = search scalar_direct_returned
