-- Inner: no promise cites this file. Positions in a list that rise from a base.
use Rattle.std.specs.Prelude.{ℕ, ◌+◌, ◌≤◌, ◌<◌, List, [], ◌∷◌}
use Rattle.record.specs.Admitted.{AdmittedTree}
use Rattle.record.specs.Content.{NoiseTree}

-- Dealing: positions rise strictly and are below N; `base` is one more than the position before
unfoldable pub RisesFrom : ℕ → ℕ → List ℕ → Type 0
RisesFrom all base [] = Unit {0}
RisesFrom all base (p ∷ ps) = (base ≤ p) × (p < all) × RisesFrom all (p + 1) ps

-- a tree after positions below `base`
pub record TreeFrom (field depth beside base : ℕ) (t : NoiseTree) : Type 0 where
  pub rising : base ≤ t.position
  pub tree : AdmittedTree field depth beside t

-- trees one after the other, the first after positions below `base`
unfoldable pub TreesFrom : ℕ → ℕ → ℕ → ℕ → List NoiseTree → Type 0
TreesFrom field depth beside base [] = Unit {0}
TreesFrom field depth beside base (t ∷ ts) = TreeFrom field depth beside base t × TreesFrom field depth beside (t.position + 1) ts
