-- `ends_bench::scalar_bench` meets its contract: the record is refused, or the window is that of its content. Assumes nothing.
use Rattle.ends.proofs.scalar.Content.{ready}
use Rattle.ends_bench.proofs.Calls.{scalar-fault, scalar-opened}
use Rattle.ends_bench.proofs.scalar_bench.Goals as goal

pub returns-in-Ok : goal.returns-in-Ok
returns-in-Ok c = rw (← c.in-Ok.ensures.0) (scalar-opened _ _ _ _ (ready _ c.in-Ok.accepted.accepted) c.write_scalar.ensures)

pub returns-in-Err : goal.returns-in-Err
returns-in-Err c = rw c.refused.ensures (scalar-fault _ _ _ _ c.in-Err.ensures)
