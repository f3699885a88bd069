-- `rows_noise::noise_binary::noise_row_binary` meets its contract: the row is walked. Assumes nothing.
use Rattle.rows.proofs.Sums.{binary_u, binary_v, binary-admitted}
use Rattle.rows_noise.proofs.noise_binary.noise_row_binary.Goals as goal

pub returns : goal.returns
returns c =
    let zero = c.zero.ensures.value in let w = c.walk.ensures in
    (binary_u _ _ _ _ _ zero _ w, binary_v _ _ _ _ _ zero _ w, binary-admitted _ _ _ _ _ zero _ w)
