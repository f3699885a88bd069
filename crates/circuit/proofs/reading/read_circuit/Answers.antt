-- `circuit::reading::read_circuit` meets its contract: one law for each return. Assumes nothing.
use Rattle.answer.proofs.Refusals.{passed_on}
use Rattle.circuit.proofs.Circuits.{fault_0, inputs-most, fault_1, wires-most, wires_fit, fault_2, fault_3, fault_4, after_12, opened}
use Rattle.circuit.proofs.reading.read_circuit.Goals as goal

pub returns-in_err-inputs : goal.returns-in_err-inputs
returns-in_err-inputs c = rw (passed_on c.from_residual.result c.from_residual.ensures.1) (fault_0 _ c.in_err-inputs.ensures)

pub overflow_sub-inputs : goal.overflow_sub-inputs
overflow_sub-inputs c = inputs-most _ c.in_ok-inputs.ensures

pub returns-in_err-gates : goal.returns-in_err-gates
returns-in_err-gates c = rw (passed_on c.from_residual-in_err-gates.result c.from_residual-in_err-gates.ensures.1) (fault_1 _ c.in_ok-inputs.ensures c.in_err-gates.ensures)

pub returns-in_err-outputs : goal.returns-in_err-outputs
returns-in_err-outputs c = rw (passed_on c.from_residual-in_err-outputs.result c.from_residual-in_err-outputs.ensures.1) (fault_2 _ c.in_ok-inputs.ensures c.in_ok-gates.ensures c.in_err-outputs.ensures)

pub read_gates-requires : goal.read_gates-requires
read_gates-requires c = wires-most _ c.in_ok-inputs.ensures c.in_ok-gates.ensures

pub returns-in_err-ands : goal.returns-in_err-ands
returns-in_err-ands c = rw (passed_on c.from_residual-in_err-ands.result c.from_residual-in_err-ands.ensures.1) (fault_3 _ c.in_ok-inputs.ensures c.in_ok-gates.ensures c.in_ok-outputs.ensures c.in_err-ands.ensures)

pub overflow_add-inputs : goal.overflow_add-inputs
overflow_add-inputs c = wires_fit _ c.in_ok-inputs.ensures c.in_ok-gates.ensures

pub returns-in_err-end : goal.returns-in_err-end
returns-in_err-end c = rw (passed_on c.from_residual-in_err-end.result c.from_residual-in_err-end.ensures.1) (fault_4 _ c.in_ok-inputs.ensures c.in_ok-gates.ensures c.in_ok-outputs.ensures c.in_ok-ands.ensures c.in_err-end.ensures)

pub returns-then-end-source : goal.returns-then-end-source
returns-then-end-source c = after_12 _ c.in_ok-inputs.ensures c.in_ok-gates.ensures c.in_ok-outputs.ensures c.in_ok-ands.ensures c.in_ok-end.ensures c.if-end-source.true

pub returns : goal.returns
returns c =
    opened _ c.in_ok-inputs.ensures c.in_ok-gates.ensures c.in_ok-outputs.ensures c.in_ok-ands.ensures c.in_ok-end.ensures c.if-end-source.false
