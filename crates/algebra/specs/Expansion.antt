-- The vectors of a dealing over any ring and any group that it scales (document 01, 'Dealing', 'Offline and online'), and
-- the correlation. Tree i of t has a position, a noise value and a leaf at each place.
use Rattle.std.specs.Prelude.{◌≡◌, Bool, true, ℕ, zero, suc, ◌-◌, ◌<◌, eqb, ltb}
use Rattle.algebra.specs.Choice.{choose}
use Rattle.algebra.specs.Every.{every}
use Rattle.algebra.specs.Group.{Ring, Scaled}
use Rattle.algebra.specs.Sum.{sum}

-- the positions of t trees are strictly rising: each but the last is below the next
unfoldable pub rising : ℕ → (ℕ → ℕ) → Bool
rising t position = every (t - 1) (λ i. ltb (position i) (position (suc i)))

abbrev pub Rising : ℕ → (ℕ → ℕ) → Type 0
Rising t position = rising t position ≡ true

-- μ: the noise values at their positions and zero elsewhere (positions differ; of two equal ones the later value would stand)
unfoldable pub noise : (R : Ring) → ℕ → (ℕ → ℕ) → (ℕ → R.group.Of) → ℕ → R.group.Of
noise R zero position value j = R.group.zero
noise R (suc t) position value j = choose (eqb (position t) j) (value t) (noise R t position value j)

-- μ is the vector with the noise values at their positions, which rise strictly, and zero elsewhere ('Offline and online')
pub record NoiseIs (R : Ring) : Type 0 where
  pub at_positions : (t : ℕ) (position : ℕ → ℕ) (value : ℕ → R.group.Of) → Rising t position
      → (i : ℕ) → i < t → noise R t position value (position i) ≡ value i
  pub elsewhere : (t : ℕ) (position : ℕ → ℕ) (value : ℕ → R.group.Of)
      → (j : ℕ) → ((i : ℕ) → i < t → position i ≡ j → ⊥) → noise R t position value j ≡ R.group.zero

-- the correction of a tree: the leaf element at its position minus Δ × value
unfoldable pub correction : {R : Ring} (S : Scaled R) → S.group.Of → S.group.Of → R.group.Of → S.group.Of
correction S Δ leaf y = S.group.sub leaf (S.scale y Δ)

-- v0 at j: the sum over all trees of the leaf at j, the correction standing in for the punctured leaf
unfoldable pub punctured : {R : Ring} (S : Scaled R) → ℕ → (ℕ → ℕ) → (ℕ → S.group.Of) → (ℕ → ℕ → S.group.Of) → ℕ → S.group.Of
punctured S t position corrections leaf j =
    sum S.group t (λ i. choose (eqb (position i) j) (corrections i) (leaf i j))

-- w0 at j: the sum of all leaves at j
unfoldable pub whole : {R : Ring} (S : Scaled R) → ℕ → (ℕ → ℕ → S.group.Of) → ℕ → S.group.Of
whole S t leaf j = sum S.group t (λ i. leaf i j)

-- w = Δu + v
abbrev pub Correlated : {R : Ring} (S : Scaled R) → S.group.Of → R.group.Of → S.group.Of → S.group.Of → Type 0
Correlated S Δ u v w = w ≡ S.group.add (S.scale u Δ) v
