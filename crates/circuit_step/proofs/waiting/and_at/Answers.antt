-- `circuit_step::waiting::and_at` meets its contract: one law for each return. Assumes nothing.
use mathlib.Core.Path.{refl}
use Rattle.circuit.proofs.Ands.{no_and}
use Rattle.circuit.specs.Inner.GateNumbers.{gate_of}
use Rattle.circuit_run.proofs.Gates.{spot_known, spot_none, spot_other, waits_at}
use Rattle.circuit_step.proofs.waiting.and_at.Goals as goal

pub returns-then-layout-gate : goal.returns-then-layout-gate
returns-then-layout-gate c = spot_none c.args.circuit.read c.if-layout-gate.true

pub known_gate-found-requires : goal.known_gate-found-requires
known_gate-found-requires c = spot_known c.args.circuit.read c.if-layout-gate.false c.place_of-at.ensures.0 c.place_of-at.ensures.1

pub returns-in_default : goal.returns-in_default
returns-in_default c =
    let found = c.known_gate-found.result.0 in
    spot_other c.args.circuit.read c.if-layout-gate.false c.place_of-at.ensures.0 c.place_of-at.ensures.1 (gate_of found) (no_and found c.in_default.not-And)
    c.known_gate-found.ensures.gate

pub returns : goal.returns
returns c =
    let read = rw c.in-And.is at c.known_gate-found.ensures.gate in
    let below = rw c.in-And.is at c.known_gate-found.ensures.below in (
      refl,
      waits_at c.args.circuit.read c.if-layout-gate.false c.place_of-at.ensures.0 c.place_of-at.ensures.1 c.in-And.first_wire c.in-And.second_wire read
          below.0 below.1,
    )
