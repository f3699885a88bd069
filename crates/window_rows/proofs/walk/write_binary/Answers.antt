-- `window_rows::walk::write_binary` meets its contract, end by end. Assumes nothing.
use Rattle.window.proofs.Filled.{room-one, alone-binary, pair_binary}
use Rattle.window_rows.proofs.walk.write_binary.Goals as goal

pub returns-in-Noise : goal.returns-in-Noise
returns-in-Noise c = let fits = rw c.in-Noise.is at c.requires.fitting in rw c.in-Noise.is (search (pair_binary, room-one))

pub returns-in-Scalar : goal.returns-in-Scalar
returns-in-Scalar c = rw c.in-Scalar.is (search alone-binary)
