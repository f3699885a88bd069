-- The number of the eight bytes there, its products carried out.
use Rattle.std.proofs.Common.{arith}
use Rattle.field.specs.Bytes.{le_number, word_at}
use Rattle.field.proofs.bytes.word_at.Goals as goal

pub returns : goal.returns
unfolding le_number word_at
returns c = omega arith
