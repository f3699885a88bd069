-- Inner: no promise cites this file. What the functions that go down to a leaf are asked, and where the way to a leaf of a punctured
-- tree starts.
use Rattle.std.specs.Prelude.{◌≢◌, ◌≡◌, List, [], ℕ, ◌+◌, ◌*◌, ◌-◌, ◌%◌, ◌^◌, ◌≤◌, ◌<◌}
use Rattle.tree.specs.Child.{child}
use Rattle.tree.specs.Columns.{columns_at, siblings_at}
use Rattle.tree.specs.Inner.Branches.{IsBranch}
use Rattle.tree.specs.Tree.{leaf_at, from_siblings}
use Rattle.tree_walk.specs.declared.down.Start.{Start}

-- two to eight children, and so many levels that a leaf's number takes 16 bits at most
pub record IsWay (g left : ℕ) : Type 0 where
  pub branch : IsBranch g
  pub short : left * g ≤ 16

-- a tree punctured elsewhere than at j, with so many levels left and its siblings from a place on
pub record IsBeside (g levels position j at : ℕ) : Type 0 where
  pub way : IsWay g levels
  pub some : 1 ≤ levels
  pub apart : position % (2 ^ g) ^ levels ≢ j % (2 ^ g) ^ levels
  pub fits : at + 16 * (levels * (2 ^ g - 1)) < 2 ^ 64

-- where the way to leaf j starts: the place of a sibling's bytes, and the levels left below it
pub record FromSibling (g levels position j at : ℕ) (r : Start) : Type 0 where
  pub leaf : (s : List ℕ) → leaf_at (2 ^ g) child r.left (columns_at s r.at) j
      ≡ from_siblings (2 ^ g) child [] (siblings_at s at (levels * (2 ^ g - 1))) levels position j
  pub fewer : r.left ≤ levels
  pub room : r.at + 16 ≤ at + 16 * (levels * (2 ^ g - 1))
