-- `circuit_gates::shares::opened_share` meets its contract. Assumes nothing.
use Rattle.circuit_run.proofs.Numbers.{tests}
use Rattle.circuit_run.specs.Inner.Places.{opened_with}
use Rattle.circuit_run.specs.Step.{and_share}
use Rattle.circuit_gates.proofs.shares.opened_share.Goals as goal

pub returns-then-role-eq-ROLE_NOISE : goal.returns-then-role-eq-ROLE_NOISE
unfolding opened_with and_share
returns-then-role-eq-ROLE_NOISE c = search tests

pub returns-else-role-eq-ROLE_NOISE : goal.returns-else-role-eq-ROLE_NOISE
unfolding opened_with and_share
returns-else-role-eq-ROLE_NOISE c = search tests
