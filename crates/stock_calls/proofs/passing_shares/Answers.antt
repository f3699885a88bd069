-- `stock_calls::passing_shares` meets its contract, test by test: 2, 20, 16.
use Rattle.answer.proofs.Faults.{chain}
use Rattle.stock_calls.proofs.Passed.{pass-above, pass-enough}
use Rattle.stock_calls.proofs.passing_shares.Goals as goal

pub returns-then-outputs-total-clause-tests : goal.returns-then-outputs-total-clause-tests
returns-then-outputs-total-clause-tests c = search (chain, pass-above) depth 9

pub returns-clause-tests : goal.returns-clause-tests
returns-clause-tests c = search (chain, pass-enough) depth 9
