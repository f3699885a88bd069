-- Round by round.
use Rattle.aes128.specs.Cipher.{rounds, cipher}
use Rattle.aes128.specs.Inner.Words.{round_keys}
use Rattle.aes_blocks.proofs.encrypt.Goals as goal

pub returns : goal.returns
unfolding round_keys rounds cipher
returns c = cc
