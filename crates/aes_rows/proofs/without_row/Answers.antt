-- The order of the sums, row by row.
use Rattle.aes_rows.proofs.Sharing.{lacks_row}
use Rattle.aes_rows.proofs.without_row.Goals as goal

pub returns : goal.returns
returns c = lacks_row _ _ _ _ _ _ c.requires c.rows.ensures c.mixed.ensures c.mixed-2.ensures c.mixed-3.ensures
