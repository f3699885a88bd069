-- The results of the byte arithmetic are bytes. Assumes nothing.
use Prim.Native.Nat.{ℕ, zero, suc, ◌+◌, ◌*◌, ◌/◌, ◌%◌, ◌^◌, ◌<◌}
use native.Mathlib.Nat.{add_comm, mul_comm, pow-suc, mod-lt}
use native.Mathlib.Omega.{arith}
use lib.Arith.{digits_lt}
use lib.Bits.{xor_lt}
use lib.Dec.{lit<}
use Rattle.aes_sbox.specs.Byte.{xtime, affine_bit, bit, from_bits, affine, inverse, s_box}

pub xtime_lt : (b : ℕ) → b < 256 → xtime b < 256
unfolding xtime
xtime_lt b h = xor_lt 8 (b / 128 * 0x1b) (b * 2 % 256) (omega arith) (omega arith)

from-bits_lt : (n : ℕ) (f : ℕ → ℕ) → ((i : ℕ) → f i < 2) → from_bits n f < 2 ^ n
unfolding from_bits
from-bits_lt zero f h = lit< tt
from-bits_lt (suc n) f h = rw (add_comm, pow-suc, mul_comm (2 ^ n) 2) (digits_lt (h n) (from-bits_lt n f h))

affine-bit_lt : (b i : ℕ) → affine_bit b i < 2
affine-bit_lt b i =
    xor_lt 1 _ _ (bit_lt b i)
    (xor_lt 1 _ _ (bit_lt b (i + 4))
    (xor_lt 1 _ _ (bit_lt b (i + 5))
    (xor_lt 1 _ _ (bit_lt b (i + 6)) (xor_lt 1 _ _ (bit_lt b (i + 7)) (bit_lt 0x63 i)))))
  where
    bit_lt : (b i : ℕ) → bit b i < 2
    bit_lt b i = mod-lt _ (lit< tt)

pub sbox_lt : (b : ℕ) → s_box b < 256
unfolding s_box affine
sbox_lt b = from-bits_lt 8 (affine_bit (inverse b)) (affine-bit_lt (inverse b))
