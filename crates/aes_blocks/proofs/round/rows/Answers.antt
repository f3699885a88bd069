-- The rows as they are defined.
use Rattle.std.proofs.Common.{refl}
use Rattle.aes_sbox.specs.Inner.Wide.{wide_rows}
use Rattle.aes_blocks.proofs.round.rows.Goals as goal

pub returns : goal.returns
unfolding wide_rows
returns c = refl
