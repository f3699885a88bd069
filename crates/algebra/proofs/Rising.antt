-- Strictly rising positions, place by place.
use mathlib.Core.Logic.{⊎_elim}
use Prim.Native.Nat.{ℕ, zero, suc, ◌-◌, ◌<◌}
use native.Mathlib.Omega.{arith}
use native.Mathlib.Nat.{eq-or-lt_of_le}
use borrow.Author.Tests.{ltb-true, lt-ltb}
use lib.Dec.{ltb}
use Rattle.algebra.specs.Expansion.{rising, Rising}
use Rattle.algebra.proofs.Every.{every_at, every-all}

-- each of t positions but the last is below the next
abbrev pub Rises : ℕ → (ℕ → ℕ) → Type 0
Rises t position = (i : ℕ) → suc i < t → position i < position (suc i)

pub rises : (t : ℕ) (position : ℕ → ℕ) → Rising t position → Rises t position
unfolding rising
rises t position r i h =
    ltb-true (position i) (position (suc i)) (every_at (λ k. ltb (position k) (position (suc k))) i (t - 1) r (omega arith))

pub rising_is : (t : ℕ) (position : ℕ → ℕ) → Rises t position → Rising t position
unfolding rising
rising_is t position r =
    every-all (λ k. ltb (position k) (position (suc k))) (t - 1) (λ i h. lt-ltb (position i) (position (suc i)) (r i (omega arith)))

-- strictly rising positions rise from any tree to any later one
pub rising_pairs : (t : ℕ) (position : ℕ → ℕ) → Rises t position → (i k : ℕ) → i < k → k < t → position i < position k
rising_pairs t position r i zero h l = absurd (omega arith)
rising_pairs t position r i (suc k) h l =
    let step : position k < position (suc k) = r k l in
    ⊎_elim (λ e. rw e step) (λ j. let far = rising_pairs t position r i k j (omega arith) in omega arith)
    (eq-or-lt_of_le {n = i} {m = k} (omega arith))
