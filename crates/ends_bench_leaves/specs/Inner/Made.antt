-- Inner: no promise cites this file. A vector as it is made.
use Rattle.std.specs.Prelude.{◌≡◌, List, ℕ}
use Rattle.record.specs.declared.Layout.{Layout}
use Rattle.ends_bench_leaves.specs.declared.vector.Vector.{Vector}

-- the vector of this number of an accepted record
pub record IsVector (v : Vector) (n : ℕ) (s : List ℕ) (f : Layout) : Type 0 where
  pub number : v.number ≡ n
  pub source : v.source.now ≡ s
  pub layout : v.layout ≡ f
