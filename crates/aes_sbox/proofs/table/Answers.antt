-- The rule's test over the constant's 256 entries computes.
use Rattle.aes_sbox.specs.Byte.{xtime, multiples, mul_bytes, squares, inverse, from_bits, affine, s_box}
use Rattle.aes_sbox.proofs.Rules.{sub-rule}
use Rattle.aes_sbox.proofs.table.Goals as goal

pub returns : goal.returns
unfolding s_box affine inverse squares mul_bytes multiples xtime from_bits
returns c = sub-rule _ tt
