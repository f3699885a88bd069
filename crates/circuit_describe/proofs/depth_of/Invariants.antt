-- `circuit_describe::depth_of`: the levels of the wires passed stand in front, and their greatest is known.
use Rattle.circuit_describe.proofs.Levels.{DepthAt}
use Rattle.circuit_describe.proofs.depth_of.Given as goal

abbrev pub invariant-loop-wire : goal.invariant-loop-wire
invariant-loop-wire l =
    (goal.iterator-loop-wire).can_next l.wire-iterator
    × (goal.iterator-loop-wire).is_finite l.wire-iterator
    × DepthAt l.circuit.source.now l.circuit.layout l.wire-iterator l.levels l.most
