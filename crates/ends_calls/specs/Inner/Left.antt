-- Inner: no promise cites this file. The trees of an accepted noise record that are left.
use Rattle.std.specs.Prelude.{◌≡◌, List, ℕ, ◌≤◌, true}
use Rattle.number.specs.Inner.Known.{is_whole}
use Rattle.record.specs.Reading.{read_trees}
use Rattle.record.specs.declared.Layout.{Layout}
use Rattle.ends.specs.Inner.Noise.{tree_siblings}

-- so many trees of so many siblings, from a place on, after positions below `base`
pub record TreesLeft (s : List ℕ) (f : Layout) (siblings place base left : ℕ) : Type 0 where
  pub count : siblings ≡ tree_siblings f
  pub few : siblings ≤ 112
  pub levels : f.depth ≤ 16
  pub within : left ≤ f.trees
  pub whole : is_whole (read_trees f.field f.depth siblings left base s place) ≡ true
