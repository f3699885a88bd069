-- The bytes of each word, four to a column.
use Rattle.field.proofs.ByteWords.{columns_of_bytes}
use Rattle.field.proofs.block.Block.columns.Goals as goal

pub returns : goal.returns
returns c = rw (c.to_le_bytes.ensures, c.to_le_bytes-2.ensures) (columns_of_bytes c.args.self.low c.args.self.high)
