-- `window_rows::walk::write_prime` meets its contract, end by end. Assumes nothing.
use Rattle.window.proofs.Filled.{room-one, alone-prime, pair_prime}
use Rattle.window_rows.proofs.walk.write_prime.Goals as goal

pub returns-in-Noise : goal.returns-in-Noise
returns-in-Noise c = let fits = rw c.in-Noise.is at c.requires.fitting in rw c.in-Noise.is (search (pair_prime, room-one))

pub returns-in-Scalar : goal.returns-in-Scalar
returns-in-Scalar c = let fits = rw c.in-Scalar.is at c.requires.fitting in rw c.in-Scalar.is (search (alone-prime, room-one))
