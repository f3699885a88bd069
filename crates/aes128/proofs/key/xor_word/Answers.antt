-- Byte by byte.
use Rattle.std.proofs.Common.{refl}
use Rattle.aes128.specs.State.{xor_word}
use Rattle.aes128.proofs.key.xor_word.Goals as goal

pub returns : goal.returns
unfolding xor_word
returns c = refl
