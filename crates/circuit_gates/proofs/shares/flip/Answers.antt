-- `circuit_gates::shares::flip` meets its contract. Assumes nothing.
use Rattle.circuit_run.proofs.Numbers.{tests}
use Rattle.circuit_run.specs.Step.{flipped}
use Rattle.circuit_gates.proofs.shares.flip.Goals as goal

pub returns-then-role-eq-ROLE_NOISE : goal.returns-then-role-eq-ROLE_NOISE
unfolding flipped
returns-then-role-eq-ROLE_NOISE c = search tests

pub returns-else-role-eq-ROLE_NOISE : goal.returns-else-role-eq-ROLE_NOISE
unfolding flipped
returns-else-role-eq-ROLE_NOISE c = search tests
