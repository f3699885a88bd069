-- `pairing_tests::held::holds_at` meets its contract.
use Rattle.pairing_tests.proofs.Turns.{at_output}
use Rattle.pairing_tests.proofs.held.holds_at.Goals as goal

pub returns : goal.returns
returns c = search at_output
