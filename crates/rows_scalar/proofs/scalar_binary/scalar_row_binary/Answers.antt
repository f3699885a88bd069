-- `rows_scalar::scalar_binary::scalar_row_binary` meets its contract: the row is walked. Assumes nothing.
use Rattle.rows.proofs.Sums.{block_w}
use Rattle.rows_scalar.proofs.scalar_binary.scalar_row_binary.Goals as goal

pub returns : goal.returns
returns c = block_w _ _ _ _ c.zero.ensures.value _ c.walk.ensures
