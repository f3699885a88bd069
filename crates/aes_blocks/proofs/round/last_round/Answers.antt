-- Column by column.
use Rattle.aes128.specs.Cipher.{sub_bytes, shift_rows}
use Rattle.aes128.proofs.Last.{last-state}
use Rattle.aes_blocks.proofs.round.last_round.Goals as goal

pub returns : goal.returns
unfolding shift_rows sub_bytes
returns c = search last-state
