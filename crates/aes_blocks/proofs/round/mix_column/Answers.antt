-- The column is the sum of what its four bytes add.
use Rattle.aes128.proofs.Wide.{mixed-column}
use Rattle.aes_blocks.proofs.round.mix_column.Goals as goal

pub returns : goal.returns
returns c = mixed-column _ _ _ _ _ _ _ _ _ c.rows.ensures c.mixed.ensures c.mixed-3.ensures c.mixed-4.ensures c.mixed-2.ensures
