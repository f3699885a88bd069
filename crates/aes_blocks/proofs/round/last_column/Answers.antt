-- The column is the sum of its four bytes at their places.
use Rattle.aes128.proofs.Last.{last-column}
use Rattle.aes_blocks.proofs.round.last_column.Goals as goal

pub returns : goal.returns
returns c = last-column _ _ _ _ c.low_rows.ensures c.low_rows-2.ensures c.high_rows-2.ensures c.high_rows.ensures
