-- The rows of the sum.
use Rattle.aes_rows.proofs.RowRounds.{entered}
use Rattle.aes_rows.proofs.with_byte.Goals as goal

pub returns : goal.returns
returns c = entered c.args.s.now c.args.c _ _ c.rows.ensures c.wide_column.ensures.rows c.mixed.ensures
