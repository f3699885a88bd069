-- `stock_calls::opening_shares` meets its contract, test by test: 2, 2, 16.
use Rattle.answer.proofs.Faults.{chain}
use Rattle.stock.proofs.Opened.{open_above, open_enough}
use Rattle.stock_calls.proofs.opening_shares.Goals as goal

pub returns-then-outputs-total-clause-tests : goal.returns-then-outputs-total-clause-tests
returns-then-outputs-total-clause-tests c = search (chain, open_above) depth 9

pub returns-clause-tests : goal.returns-clause-tests
returns-clause-tests c = search (chain, open_enough) depth 9
