-- `circuit_round::writing::write_shares`: the shares of the wires passed stand in front of what was there.
use Rattle.circuit_run.proofs.Wires.{OutputAt}
use Rattle.circuit_run.specs.Round.{shares_in}
use Rattle.circuit_round.proofs.writing.write_shares.Given as goal

abbrev pub invariant-loop-i : goal.invariant-loop-i
invariant-loop-i l =
    (goal.iterator-loop-i).can_next l.i-iterator
    × (goal.iterator-loop-i).is_finite l.i-iterator
    × OutputAt l.circuit.source.now l.circuit.layout (shares_in l.wires) l.initial.output l.i-iterator.iter l.output l.i-iterator.count
