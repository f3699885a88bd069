-- Twice a byte is what the test over the 256 bytes found.
use Rattle.aes_sbox.proofs.Bytes.{twice_of}
use Rattle.aes_sbox.proofs.twice.Goals as goal

pub returns : goal.returns
returns c = twice_of c.requires
