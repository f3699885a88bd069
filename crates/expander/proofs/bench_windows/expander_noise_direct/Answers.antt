-- `bench_windows::expander_noise_direct` meets the page's contract. Assumes nothing.
use Rattle.page_two.proofs.Bench.{noise_direct_returned}
use Rattle.expander.proofs.bench_windows.expander_noise_direct.Goals as goal

pub returns : goal.returns
returns c = search noise_direct_returned
