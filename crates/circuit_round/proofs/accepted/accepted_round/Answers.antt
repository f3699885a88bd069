-- `circuit_round::accepted::accepted_round` meets its contract: one law for each need. Assumes nothing.
use Rattle.circuit_run.proofs.Rounds.{round-finishes, round-opens}
use Rattle.circuit_round.proofs.accepted.accepted_round.Goals as goal

pub returns-then-bits-eq0 : goal.returns-then-bits-eq0
returns-then-bits-eq0 c = search round-finishes

pub returns : goal.returns
returns c = search round-opens
