-- Three times a byte is what the test over the 256 bytes found.
use Rattle.aes_sbox.proofs.Bytes.{thrice_of}
use Rattle.aes_sbox.proofs.thrice.Goals as goal

pub returns : goal.returns
returns c = thrice_of c.requires c.twice.ensures
