-- `circuit_round::passing::take_inputs` meets its contract. Assumes nothing.
use Rattle.circuit_run.proofs.Inputs.{input-start, input-next}
use Rattle.circuit_round.proofs.passing.take_inputs.Goals as goal

pub loop-i-init : goal.loop-i-init
loop-i-init c = search input-start

pub loop-i-preserved : goal.loop-i-preserved
loop-i-preserved c = search input-next
