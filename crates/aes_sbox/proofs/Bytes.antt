-- Twice and three times a byte, from one computed test over the 256 bytes. Assumes nothing.
use mathlib.Core.Path.{◌≡◌, refl, sym}
use mathlib.Core.Bool.{Bool, true, false}
use Prim.Native.Nat.{ℕ, zero, suc, ◌*◌, ◌/◌, ◌%◌, ◌<◌}
use native.Mathlib.Omega.{arith}
use lib.Bits.{bit_xor, xor_lt}
use lib.Dec.{T, eqb, eqb→eq}
use borrow.Author.Tests.{eqb-true, eqb-false}
use Rattle.aes_sbox.specs.Byte.{xtime, multiples, mul_bytes}
use Rattle.aes_sbox.proofs.Bounds.{xtime_lt}
use Rattle.aes_sbox.proofs.Every.{both, both_left, both_right}

-- f passes at each number below n
abbrev below : (ℕ → Bool) → ℕ → Bool
below f zero = true
below f (suc n) = both (f n) (below f n)

below_at : (f : ℕ → Bool) (n : ℕ) → T (below f n) → (k : ℕ) → k < n → T (f k)
below_at f zero t k h = absurd (omega arith)
below_at f (suc n) t k h = decide (eqb k n) refl (λ l. below_at f n (both_right (f n) (below f n) t) k l)
  where
    decide : (b : Bool) → eqb k n ≡ b → (k < n → T (f k)) → T (f k)
    decide true q less = rw (eqb-true k n q) (both_left (f n) (below f n) t)
    decide false q less = less (omega (arith, eqb-false k n q))

abbrev multiplied : ℕ → Bool
multiplied b = both (eqb (mul_bytes 2 b) (xtime b)) (eqb (mul_bytes 3 b) (bit_xor (xtime b) b))

tested : T (below multiplied 256)
unfolding mul_bytes multiples xtime
tested = tt

twice_is : (b : ℕ) → b < 256 → mul_bytes 2 b ≡ xtime b
twice_is b h = eqb→eq _ _ (both_left (eqb (mul_bytes 2 b) (xtime b)) (eqb (mul_bytes 3 b) (bit_xor (xtime b) b)) (below_at multiplied 256 tested b h))

thrice_is : (b : ℕ) → b < 256 → mul_bytes 3 b ≡ bit_xor (xtime b) b
thrice_is b h = eqb→eq _ _ (both_right (eqb (mul_bytes 2 b) (xtime b)) (eqb (mul_bytes 3 b) (bit_xor (xtime b) b)) (below_at multiplied 256 tested b h))

pub twice_lt : (b : ℕ) → b < 256 → mul_bytes 2 b < 256
twice_lt b h = rw (twice_is b h) (xtime_lt b h)

pub thrice_lt : (b : ℕ) → b < 256 → mul_bytes 3 b < 256
thrice_lt b h = rw (thrice_is b h) (xor_lt 8 (xtime b) b (xtime_lt b h) h)

-- as the code computes them
pub twice_of : {b : ℕ} → b < 256 → (bit_xor (b / 128 * 27) (b * 2 % 256) ≡ mul_bytes 2 b) × (bit_xor (b / 128 * 27) (b * 2 % 256) < 256)
unfolding xtime
twice_of {b} h = (sym (twice_is b h), xtime_lt b h)

pub thrice_of : {b d : ℕ} → b < 256 → (d ≡ mul_bytes 2 b) × (d < 256) → (bit_xor d b ≡ mul_bytes 3 b) × (bit_xor d b < 256)
thrice_of {b} {d} h e = (rw (e.0, twice_is b h) (sym (thrice_is b h)), xor_lt 8 d b e.1 h)
