-- The facts common to both fields, of any commutative ring and any commutative group that it scales.
use mathlib.Core.Path.{◌≡◌}
use Prim.Native.Nat.{ℕ, ◌<◌}
use Rattle.algebra.specs.Group.{Ring, RingLaws}
use Rattle.algebra.specs.Sum.{accumulate}
use Rattle.algebra.specs.Expansion.{noise}
use Rattle.algebra.specs.Common.{NoiseBelow, CommonFacts}
use Rattle.algebra.proofs.Matrix.{output_is_matrix}
use Rattle.algebra.proofs.Correlation.{noise-element, accumulate-correlated, matrix-correlated}
use Rattle.algebra.proofs.Inverse.{accumulate_tells, correlation_tells, noise_tells}

-- the accumulated noise tells the noise, and that the positions and noise values
positions-told : (R : Ring) → RingLaws R → (N t : ℕ) (p q : ℕ → ℕ) (y z : ℕ → R.group.Of) → NoiseBelow R N t p y → NoiseBelow R N t q z
    → ((j : ℕ) → j < N → accumulate R.group (noise R t p y) j ≡ accumulate R.group (noise R t q z) j)
    → (i : ℕ) → i < t → (p i ≡ q i) × (y i ≡ z i)
positions-told R RL N t p q y z A B e =
    noise_tells R N t p q y z A B
    (accumulate_tells R.group RL.group N (noise R t p y) (noise R t q z)
    (λ j h. noise-element R RL t p y A.element j) (λ j h. noise-element R RL t q z B.element j) e)

pub common_facts : CommonFacts
common_facts R S RL L =
    record {
      outputs = matrix-correlated R S RL L;
      matrix = output_is_matrix R S RL L;
      accumulated = record {
        correlation = λ Δ N u v w hu hw.
            (correlation_tells R S RL L Δ N u v w hu hw, accumulate-correlated R S RL L Δ N u v w hu);
        positions = positions-told R RL;
      };
    }
