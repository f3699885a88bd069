-- The columns of an exclusive or.
use Rattle.aes128.proofs.Columns.{columns-xor}
use Rattle.aes_blocks.proofs.round.first_key.Goals as goal

pub returns : goal.returns
returns c = rw (c.columns.ensures, c.add.ensures) (columns-xor _ _ _ _)
