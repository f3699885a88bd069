-- `circuit_describe::describe_circuit` meets its contract: one law for each return. Assumes nothing.
use Rattle.circuit_describe.proofs.Returns.{circuit-refused, circuit-said}
use Rattle.circuit_describe.proofs.describe_circuit.Goals as goal

pub returns-in-Ok : goal.returns-in-Ok
returns-in-Ok c = rw (← c.in-Ok.ensures) (circuit-said c.in-Ok.circuit.source.now c.in-Ok.circuit.read c.depth_of.ensures.0)

pub returns-in-Err : goal.returns-in-Err
returns-in-Err c = circuit-refused c.args.source.now c.in-Err.ensures c.refused.ensures
