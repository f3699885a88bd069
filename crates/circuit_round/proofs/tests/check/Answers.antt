-- `circuit_round::tests::check` meets its contract: the bytes are tested last, with the gates that wait counted. Assumes nothing.
use Rattle.answer.proofs.Faults.{chain}
use Rattle.circuit_round.proofs.tests.check.Goals as goal

pub returns : goal.returns
returns c = rw (← c.waiting_gates-waits.ensures) (search chain depth 12 fits 4000)
