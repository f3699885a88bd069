-- Inner: no promise cites this file. What the walk and the fills ask of the number of children and of a punctured tree.
use Rattle.std.specs.Prelude.{ℕ, ◌+◌, ◌-◌, ◌*◌, ◌^◌, ◌≤◌}
use Rattle.tree.specs.declared.punctured.Punctured.{Punctured}

-- two, four or eight children
pub record IsBranch (g : ℕ) : Type 0 where
  pub two : 1 ≤ g
  pub eight : g ≤ 3

-- the siblings of a punctured tree lie within n bytes
pub record IsPunctured (tree : Punctured) (n : ℕ) : Type 0 where
  pub branch : IsBranch tree.branch_bits
  pub short : tree.levels * tree.branch_bits ≤ 64
  pub room : tree.at + 16 * (tree.levels * (2 ^ tree.branch_bits - 1)) ≤ n
