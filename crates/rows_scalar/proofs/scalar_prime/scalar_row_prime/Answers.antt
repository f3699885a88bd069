-- `rows_scalar::scalar_prime::scalar_row_prime` meets its contract: the row is walked. Assumes nothing.
use Rattle.rows.proofs.Sums.{prime_w, prime-admitted}
use Rattle.rows_scalar.proofs.scalar_prime.scalar_row_prime.Goals as goal

pub returns : goal.returns
returns c = let w = c.walk-sum.ensures in (prime_w _ _ _ _ _ w c.reduce.ensures, prime-admitted _ _ _ _ _ w)
