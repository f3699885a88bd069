-- The shared states are made of the columns that `without_row` makes.
use Rattle.aes_rows.proofs.Sharing.{shared}
use Rattle.aes_rows.proofs.share.Goals as goal

pub returns : goal.returns
returns c = search shared
