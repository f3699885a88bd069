-- `rows_noise::noise_prime::noise_row_prime` meets its contract: the row is walked. Assumes nothing.
use Rattle.rows.proofs.Sums.{primes_u, primes_v, primes-admitted}
use Rattle.rows_noise.proofs.noise_prime.noise_row_prime.Goals as goal

pub returns : goal.returns
returns c =
    let w = c.walk-sums.ensures in
    (primes_u _ _ _ _ _ _ w c.reduce.ensures, primes_v _ _ _ _ _ _ w c.reduce-2.ensures, primes-admitted _ _ _ _ _ _ w)
