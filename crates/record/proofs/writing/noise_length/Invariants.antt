-- The loop's invariant of `record::writing::noise_length`: the sum and what is left of the positions make the length.
use Rattle.record.proofs.Lengths.{Sum}
use Rattle.record.proofs.writing.noise_length.Given as goal

abbrev pub invariant-loop-position : goal.invariant-loop-position
invariant-loop-position l = Sum l.layout l.positions l.total l.base l.position-index
