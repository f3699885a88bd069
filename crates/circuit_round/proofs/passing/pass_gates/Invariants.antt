-- `circuit_round::passing::pass_gates`: the gates passed have their bytes after the round, the rest is as it was, and the bits of those
-- that wait stand in front of what was there.
use Rattle.circuit_round.proofs.Passes.{PassAt}
use Rattle.circuit_round.proofs.passing.pass_gates.Given as goal

abbrev pub invariant-loop-wire : goal.invariant-loop-wire
invariant-loop-wire l =
    (goal.iterator-loop-wire).can_next l.wire-iterator
    × (goal.iterator-loop-wire).is_finite l.wire-iterator
    × PassAt l.round.circuit.source.now l.round.circuit.layout l.role l.triples l.far_bits l.initial.wires l.initial.bits_out l.wire-iterator l.wires l.bits_out l.ands l.passed l.place
