-- The needs of the bits of a gate that waits. Assumes nothing.
use Prim.Native.Nat.{ℕ, ◌+◌, ◌*◌, ◌<◌}
use mathlib.Core.List.{List}
use mathlib.Core.Path.{◌≡◌}
use native.Mathlib.Omega.{arith}
use lib.ListN.{length, set, length-set}
use Rattle.circuit_run.specs.Inner.RoundGates.{CanPut}

module _ {byte : ℕ} (e : byte ≡ 1) {triples : List ℕ} {ands : ℕ} {bits : List ℕ} {place : ℕ} (h : CanPut byte triples ands bits place) where
  pub first_bit : ands * 3 < length triples
  first_bit = omega (arith, h.triple e)

  pub second-bit : ands * 3 + 1 < length triples
  second-bit = h.triple e

  pub first-room : place < length bits
  first-room = omega (arith, h.room e)

  pub second-room : (x : ℕ) → place + 1 < length (set bits place x)
  second-room x = simp length-set (h.room e)
