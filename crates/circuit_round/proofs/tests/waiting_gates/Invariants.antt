-- `circuit_round::tests::waiting_gates`: the gates before that wait are counted.
use Rattle.circuit_run.proofs.Waiting.{CountTurn}
use Rattle.circuit_round.proofs.tests.waiting_gates.Given as goal

abbrev pub invariant-loop-byte : goal.invariant-loop-byte
invariant-loop-byte l = CountTurn l.byte-items l.count l.byte-index
