-- The loop's invariant of `record_reading::noise::read_noise`: what is left of the trees is the answer.
use Rattle.record_reading.proofs.Records.{Turn}
use Rattle.record_reading.proofs.noise.read_noise.Given as goal

abbrev pub invariant-loop : goal.invariant-loop
invariant-loop l = Turn l.source l.layout l.siblings l.at l.base l.counter
