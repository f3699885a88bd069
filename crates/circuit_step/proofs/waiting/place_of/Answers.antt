-- `circuit_step::waiting::place_of` meets its contract. Assumes nothing.
use Rattle.circuit.proofs.Ands.{one_for}
use Rattle.circuit.specs.Inner.GateNumbers.{gate_of}
use Rattle.circuit_run.proofs.Gates.{place-start, place-known, place-next}
use Rattle.circuit_step.proofs.waiting.place_of.Goals as goal

pub loop-i-init : goal.loop-i-init
loop-i-init c = search place-start

pub known_gate-passed-requires : goal.known_gate-passed-requires
known_gate-passed-requires c = search place-known

pub loop-i-preserved : goal.loop-i-preserved
loop-i-preserved c =
    let g = gate_of c.known_gate-passed.result.0 in
    place-next c.args.circuit.read c.requires c.loop-i.invariant c.loop-i-test.true g (one_for g c.from-ands.ensures c.is_and.ensures) c.known_gate-passed.ensures.gate
