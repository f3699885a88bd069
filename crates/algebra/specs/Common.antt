-- Facts common to both fields, for any commutative ring and any commutative group that it scales (document 01, 'Questions a reader
-- of the promises may put', the last answer): the outputs' correlation, 'output is matrix', and what accumulated vectors tell.
use Rattle.std.specs.Prelude.{◌≡◌, ◌↔◌, ℕ, ◌<◌}
use Rattle.algebra.specs.Group.{Element, Ring, Scaled, RingLaws, ScaledLaws, itself}
use Rattle.algebra.specs.Sum.{accumulate}
use Rattle.algebra.specs.Row.{Row, RowWithin, output, entry, row_times}
use Rattle.algebra.specs.Expansion.{Rising, noise, correction, punctured, whole, Correlated}

-- what is dealt: Δ, and of each of t trees a position, a noise value and a leaf at each place; the positions rise strictly, and Δ,
-- noise values and leaves are elements
pub record Dealt {R : Ring} (S : Scaled R) : Type 0 where
  pub delta : S.group.Of
  pub trees : ℕ
  pub position : ℕ → ℕ
  pub value : ℕ → R.group.Of
  pub leaf : ℕ → ℕ → S.group.Of
  pub rising : Rising trees position
  pub delta-element : Element S.group delta
  pub value-element : (i : ℕ) → i < trees → Element R.group (value i)
  pub leaf-element : (i j : ℕ) → Element S.group (leaf i j)

-- its μ, v0 and w0
abbrev pub dealt_noise : {R : Ring} {S : Scaled R} → Dealt S → ℕ → R.group.Of
dealt_noise {R} D = noise R D.trees D.position D.value

abbrev pub dealt_punctured : {R : Ring} {S : Scaled R} → Dealt S → ℕ → S.group.Of
dealt_punctured {R} {S} D =
    punctured S D.trees D.position (λ i. correction S D.delta (D.leaf i (D.position i)) (D.value i)) D.leaf

abbrev pub dealt_whole : {R : Ring} {S : Scaled R} → Dealt S → ℕ → S.group.Of
dealt_whole {R} {S} D = whole S D.trees D.leaf

-- the outputs of every row satisfy w = Δu + v: u the code matrix times μ, v and w the row's outputs of the accumulated v0 and w0
abbrev pub OutputsCorrelated : {R : Ring} → Scaled R → Type 0
OutputsCorrelated {R} S =
    (D : Dealt S) (N : ℕ) (row : Row R) → RowWithin R N row
    → Correlated S D.delta (row_times (itself R) N (entry row) (dealt_noise D))
    (output S row (accumulate S.group (dealt_punctured D)))
    (output S row (accumulate S.group (dealt_whole D)))

-- a row's output of an accumulated vector is its row of the code matrix times the vector
abbrev pub OutputIsMatrix : {R : Ring} → Scaled R → Type 0
OutputIsMatrix {R} S =
    (N : ℕ) (row : Row R) → RowWithin R N row
    → (f : ℕ → S.group.Of) → output S row (accumulate S.group f) ≡ row_times S N (entry row) f

-- t noise values, elements other than zero, at strictly rising positions below N
pub record NoiseBelow (R : Ring) (N t : ℕ) (position : ℕ → ℕ) (value : ℕ → R.group.Of) : Type 0 where
  pub rising : Rising t position
  pub below : (i : ℕ) → i < t → position i < N
  pub element : (i : ℕ) → i < t → Element R.group (value i)
  pub nonzero : (i : ℕ) → i < t → value i ≡ R.group.zero → ⊥

-- what accumulated vectors tell (document 02, 12)
pub record AccumulatedTell {R : Ring} (S : Scaled R) : Type 0 where
  -- they satisfy w = Δu + v at all N places exactly when the vectors do
  pub correlation : (Δ : S.group.Of) (N : ℕ) (u : ℕ → R.group.Of) (v w : ℕ → S.group.Of)
      → ((j : ℕ) → j < N → Element R.group (u j)) → ((j : ℕ) → j < N → Element S.group (w j))
      → ((j : ℕ) → j < N → Correlated S Δ (accumulate R.group u j) (accumulate S.group v j) (accumulate S.group w j))
      ↔ ((j : ℕ) → j < N → Correlated S Δ (u j) (v j) (w j))
  -- the same accumulated noise at all N places is of the same positions and noise values
  pub positions : (N t : ℕ) (p q : ℕ → ℕ) (y z : ℕ → R.group.Of) → NoiseBelow R N t p y → NoiseBelow R N t q z
      → ((j : ℕ) → j < N → accumulate R.group (noise R t p y) j ≡ accumulate R.group (noise R t q z) j)
      → (i : ℕ) → i < t → (p i ≡ q i) × (y i ≡ z i)

-- the three of them, of one ring and one group that it scales
pub record Common {R : Ring} (S : Scaled R) : Type 0 where
  pub outputs : OutputsCorrelated S
  pub matrix : OutputIsMatrix S
  pub accumulated : AccumulatedTell S

-- they hold of any
abbrev pub CommonFacts : Type 1
CommonFacts = (R : Ring) (S : Scaled R) → RingLaws R → ScaledLaws R S → Common S
