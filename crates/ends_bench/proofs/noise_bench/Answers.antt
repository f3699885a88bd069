-- `ends_bench::noise_bench` meets its contract: the record is refused, or the window is that of its content. Assumes nothing.
use Rattle.ends.proofs.noise.Content.{ready}
use Rattle.ends_bench.proofs.Calls.{noise-fault, noise-opened}
use Rattle.ends_bench.proofs.noise_bench.Goals as goal

pub returns-in-Ok : goal.returns-in-Ok
returns-in-Ok c = rw (← c.in-Ok.ensures.0) (noise-opened _ _ _ _ _ (ready _ c.in-Ok.accepted.accepted) c.write_noise.ensures)

pub returns-in-Err : goal.returns-in-Err
returns-in-Err c = rw c.refused.ensures (noise-fault _ _ _ _ _ c.in-Err.ensures)
