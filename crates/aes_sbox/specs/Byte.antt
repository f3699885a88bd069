-- FIPS 197, bytes as elements of GF(2^8) (section 4) and the S-box (5.1.1). A byte is its number; addition is exclusive or (4.1).
use Rattle.std.specs.Prelude.{ℕ, zero, suc, ◌+◌, ◌*◌, ◌/◌, ◌%◌, ◌^◌}
use Rattle.std.specs.Int.Bits.{bit_xor}

-- FIPS 197, 4.2: b times x: b shifted up one bit, with {1b} added if the bit that leaves is set
unfoldable pub xtime : ℕ → ℕ
xtime b = bit_xor (b / 128 * 0x1b) (b * 2 % 256)

-- FIPS 197, 4.2: the sum of a x^i over the n low bits i that are set in b
unfoldable pub multiples : ℕ → ℕ → ℕ → ℕ
multiples zero a b = 0
multiples (suc n) a b = bit_xor (b % 2 * a) (multiples n (xtime a) (b / 2))

-- FIPS 197, 4.2: the product of two bytes
unfoldable pub mul_bytes : ℕ → ℕ → ℕ
mul_bytes a b = multiples 8 a b

-- b^2 b^4 .. b^(2^n)
unfoldable pub squares : ℕ → ℕ → ℕ
squares zero b = 1
squares (suc n) b = mul_bytes (mul_bytes b b) (squares n (mul_bytes b b))

-- FIPS 197, 4.4: the inverse of a byte that is not {00}, as b^254; {00} gives {00}. That it is the inverse stands in `Table`
unfoldable pub inverse : ℕ → ℕ
inverse b = squares 7 b

-- bit i of a byte, the index taken modulo 8
abbrev pub bit : ℕ → ℕ → ℕ
bit b i = b / 2 ^ (i % 8) % 2

-- FIPS 197, 5.1.1: bit i of the affine step, with the constant {63}
abbrev pub affine_bit : ℕ → ℕ → ℕ
affine_bit b i =
    bit_xor (bit b i)
    (bit_xor (bit b (i + 4)) (bit_xor (bit b (i + 5)) (bit_xor (bit b (i + 6)) (bit_xor (bit b (i + 7)) (bit 0x63 i)))))

-- the number whose bits 0 to n - 1 are f's
unfoldable pub from_bits : ℕ → (ℕ → ℕ) → ℕ
from_bits zero f = 0
from_bits (suc n) f = from_bits n f + f n * 2 ^ n

-- FIPS 197, 5.1.1: the affine step
unfoldable pub affine : ℕ → ℕ
affine b = from_bits 8 (affine_bit b)

-- FIPS 197, 5.1.1: the S-box: the inverse, then the affine step
unfoldable pub s_box : ℕ → ℕ
s_box b = affine (inverse b)
