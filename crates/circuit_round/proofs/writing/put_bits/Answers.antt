-- `circuit_round::writing::put_bits` meets its contract. Assumes nothing.
use Rattle.circuit_run.proofs.Numbers.{tests}
use Rattle.circuit_run.specs.Inner.RoundGates.{put_bits}
use Rattle.circuit_round.proofs.writing.put_bits.Goals as goal

pub returns-then-byte-ne-WAITS : goal.returns-then-byte-ne-WAITS
unfolding put_bits
returns-then-byte-ne-WAITS c = (search tests, search tests)

pub returns : goal.returns
unfolding put_bits
returns c = rw (c.share_of.ensures, c.share_of-2.ensures) (search tests, search tests)
