-- Positions that are strictly rising and below N, and what the loop that tests them one after the other knows.
use mathlib.Core.Path.{◌≡◌, refl, sym, ap}
use mathlib.Core.Bool.{Bool, true, false}
use mathlib.Core.List.{List, [], ◌∷◌}
use Prim.Native.Nat.{ℕ, zero, suc, ◌+◌, ◌≤◌, ◌<◌}
use native.Mathlib.Omega.{arith}
use borrow.Author.Tests.{ltb-true, lt-ltb}
use lib.Dec.{ltb}
use lib.ListN.{length, get_or}
use Rattle.algebra.specs.Every.{every}
use Rattle.algebra.specs.Expansion.{rising, Rising}
use Rattle.algebra.proofs.Every.{every_at, every-all}
use Rattle.algebra.proofs.Rising.{Rises, rises, rising_is}
use Rattle.algebra.proofs.Tests.{and_left, and_right, and_both}
use Rattle.record.specs.Inner.Rising.{RisesFrom}
use Rattle.dealing.specs.Input.{positions_admitted}

module _ (N t : ℕ) (l : List ℕ) where
  pub positions-rising : positions_admitted N t l ≡ true → Rising t (λ i. get_or l i 0)
  unfolding positions_admitted
  positions-rising e = and_left (rising t (λ i. get_or l i 0)) (every t (λ i. ltb (get_or l i 0) N)) e

  pub positions-below : positions_admitted N t l ≡ true → (i : ℕ) → i < t → get_or l i 0 < N
  unfolding positions_admitted
  positions-below e i h =
      ltb-true (get_or l i 0) N
      (every_at (λ i. ltb (get_or l i 0) N) i t (and_right (rising t (λ i. get_or l i 0)) (every t (λ i. ltb (get_or l i 0) N)) e) h)

  pub positions_are : Rising t (λ i. get_or l i 0) → ((i : ℕ) → i < t → get_or l i 0 < N) → positions_admitted N t l ≡ true
  unfolding positions_admitted
  positions_are r b = and_both r (every-all (λ i. ltb (get_or l i 0) N) t (λ i h. lt-ltb (get_or l i 0) N (b i h)))

-- a test that cannot hold
refuted : (b : Bool) → (b ≡ true → ⊥) → false ≡ b
refuted true f = absurd (f refl)
refuted false f = refl

module _ (N t : ℕ) (l : List ℕ) where
  -- the first i positions rise and are below N; `base` is one more than the last of them
  pub record Risen (base i : ℕ) : Type 0 where
    pub turns : i ≤ t
    pub below : (k : ℕ) → k < i → get_or l k 0 < N
    pub rising : Rises i (λ k. get_or l k 0)
    pub first : i ≡ 0 → base ≡ 0
    pub next : (k : ℕ) → i ≡ suc k → base ≡ get_or l k 0 + 1

  pub rising_done : (base i : ℕ) → Risen base i → t ≤ i → true ≡ positions_admitted N t l
  rising_done base i T h = sym (positions_are N t l (rising_is t _ (λ k g. T.rising k (omega arith))) (λ k g. T.below k (omega arith)))

  module _ (base i all p : ℕ) (T : Risen base i) (h : i < t) (power : all ≡ N) (read : p ≡ get_or l i 0) where
    low : (j : ℕ) → i ≡ j → positions_admitted N t l ≡ true → p < base → ⊥
    low zero e a b = omega (arith, T.first e)
    low (suc k) e a b =
        omega (arith, rises t (λ k. get_or l k 0) (positions-rising N t l a) k (omega arith), T.next k e, read, ap (λ (n : ℕ). get_or l n 0) e)

    pub rising-low : p < base → false ≡ positions_admitted N t l
    rising-low b = refuted _ (λ a. low i refl a b)

    pub rising-high : all ≤ p → false ≡ positions_admitted N t l
    rising-high b = refuted _ (λ a. omega (arith, positions-below N t l a i h))

-- positions in a list that rise from a base
pub rise_from : (N base : ℕ) (l : List ℕ) → ((i : ℕ) → i < length l → get_or l i 0 < N)
    → ((i : ℕ) → suc i < length l → get_or l i 0 < get_or l (suc i) 0) → (0 < length l → base ≤ get_or l 0 0) → RisesFrom N base l
unfolding RisesFrom
rise_from N base [] below rising least = tt
rise_from N base (s ∷ l) below rising least = (
  least (omega arith),
  below 0 (omega arith),
  rise_from N (s + 1) l (λ i h. below (suc i) (omega arith)) (λ i h. rising (suc i) (omega arith))
      (λ h. let r : s < get_or l 0 0 = rising 0 (omega arith) in omega arith),
)
