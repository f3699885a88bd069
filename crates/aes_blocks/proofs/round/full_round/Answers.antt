-- Column by column.
use Rattle.aes128.specs.Cipher.{sub_bytes, shift_rows, mix_columns}
use Rattle.aes128.proofs.Rounds.{with_key}
use Rattle.aes_blocks.proofs.round.full_round.Goals as goal

pub returns : goal.returns
unfolding mix_columns shift_rows sub_bytes
returns c = search with_key
