-- Sums over indices, and accumulation (document 01, 'Offline and online'). A vector is a function of the index.
use Rattle.std.specs.Prelude.{ℕ, zero, suc}
use Rattle.algebra.specs.Group.{Group}

-- the sum of f at 0 to n − 1
unfoldable pub sum : (G : Group) → ℕ → (ℕ → G.Of) → G.Of
sum G zero f = G.zero
sum G (suc n) f = G.add (sum G n f) (f n)

-- accumulating replaces place j by the sum of places 0 to j
unfoldable pub accumulate : (G : Group) → (ℕ → G.Of) → ℕ → G.Of
accumulate G f j = sum G (suc j) f
