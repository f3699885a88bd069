-- `circuit_step::running::run_on` meets its contract: one law for each gate. Assumes nothing.
use mathlib.Core.Path.{◌∙◌}
use Rattle.circuit_run.proofs.Gates.{run-known, run-waits, run_xor, run_not, run_ends}
use Rattle.circuit_step.proofs.running.run_on.Goals as goal
use Rattle.circuit_step.proofs.running.run_on.Goals.{in-Xor, in-Not}

pub known_gate-found-requires : goal.known_gate-found-requires
known_gate-found-requires c = search run-known

pub returns-in-And : goal.returns-in-And
returns-in-And c =
    let read = rw c.in-And.is at c.known_gate-found.ensures.gate in
    let below = rw c.in-And.is at c.known_gate-found.ensures.below in
    run-waits c.args.circuit.read c.loop-gate.invariant c.loop-gate-test.true c.in-And.first_wire c.in-And.second_wire read below.0 below.1

pub loop-gate-preserved : goal.loop-gate-preserved
loop-gate-preserved c =
    elim c.match-found.branch [
      | in-Xor w ↦
          let read = rw w.in-Xor.is at c.known_gate-found.ensures.gate in
          run_xor c.args.circuit.read c.loop-gate.invariant c.loop-gate-test.true w.in-Xor.a w.in-Xor.b read w.wires-is
      | in-Not w ↦
          let read = rw w.in-Not.is at c.known_gate-found.ensures.gate in
          run_not c.args.circuit.read c.loop-gate.invariant c.loop-gate-test.true w.in-Not.a read (w.wires-is ∙ w.flip.ensures)
    ]

pub returns : goal.returns
returns c = search run_ends
