-- Exclusive or and AND of 0 and 1, and the shares that a run makes of them, are 0 or 1. Assumes nothing.
use Prim.Native.Nat.{ℕ, ◌≤◌}
use mathlib.Core.Bool.{Bool, true, false}
use native.Mathlib.Omega.{arith}
use lib.Bits.{bit_xor, bit_and, xor_lt, and_lt}
use lib.Dec.{eqb}
use Rattle.algebra.specs.Choice.{choose}
use Rattle.circuit_run.specs.Step.{and_share, flipped}

pub xor-bit : {x y : ℕ} → x ≤ 1 → y ≤ 1 → bit_xor x y ≤ 1
xor-bit {x} {y} h g = omega (arith, xor_lt 1 x y (omega arith) (omega arith))

pub and-bit : {x y : ℕ} → x ≤ 1 → y ≤ 1 → bit_and x y ≤ 1
and-bit {x} {y} h g = omega (arith, and_lt 1 x y (omega arith) (omega arith))

pub flipped-bit : (role : ℕ) {x : ℕ} → x ≤ 1 → flipped role x ≤ 1
unfolding flipped
flipped-bit role {x} h = of (eqb role 1)
  where
    of : (b : Bool) → choose b (bit_xor x 1) x ≤ 1
    of true = xor-bit h (omega arith)
    of false = h

pub share-bit : (role : ℕ) {d e a b t : ℕ} → d ≤ 1 → e ≤ 1 → a ≤ 1 → b ≤ 1 → t ≤ 1 → and_share role d e a b t ≤ 1
unfolding and_share
share-bit role {d} {e} {a} {b} {t} hd he ha hb ht = of (eqb role 1)
  where
    of : (c : Bool) → choose c (bit_xor (bit_xor (bit_xor t (bit_and d b)) (bit_and e a)) (bit_and d e)) (bit_xor (bit_xor t (bit_and d b)) (bit_and e a)) ≤ 1
    of true = xor-bit (xor-bit (xor-bit ht (and-bit hd hb)) (and-bit he ha)) (and-bit hd he)
    of false = xor-bit (xor-bit ht (and-bit hd hb)) (and-bit he ha)
