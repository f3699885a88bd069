-- Inner: no promise cites this file. An accepted noise record by its numbers: its trees stand from the body on, and none of their
-- tests fails again.
use Rattle.std.specs.Prelude.{◌≡◌, List, [], ℕ, ◌+◌, ◌-◌, ◌*◌, ◌^◌, ◌≤◌, ◌<◌, length}
use Rattle.number.specs.Reading.{Whole, Refused, Parsed}
use Rattle.record.specs.Content.{NoiseTree, NoisePart, sibling_count}
use Rattle.record.specs.Reading.{read_tree, read_trees, read_noise}
use Rattle.record.specs.Answer.{head_of}
use Rattle.record.specs.Inner.Answers.{tree_of}
use Rattle.record.specs.declared.Layout.{Layout}
use Rattle.record.specs.declared.Tree.{Tree}
use Rattle.window.specs.Inner.Sizes.{Sizes}

-- the siblings of a tree
abbrev pub tree_siblings : Layout → ℕ
tree_siblings f = sibling_count f.depth f.branch_bits

-- the trees of a record, which begin at the body
unfoldable pub trees_at : List ℕ → Layout → List NoiseTree
trees_at s f = from (read_trees f.field f.depth (tree_siblings f) f.trees 0 s f.body)
  where
    from : Parsed (List NoiseTree) → List NoiseTree
    from (Whole z) = z.0
    from (Refused k) = []

-- the content of an accepted record
abbrev pub content_of : List ℕ → Layout → NoisePart
content_of s f = record { head = head_of s f; trees = trees_at s f }

-- what a record that was accepted is known to be; its trees are read up to `end`, as a loop begins, with none passed yet
pub record Ready (s : List ℕ) (f : Layout) : Type 0 where
  pub read : read_noise s ≡ Whole (content_of s f)
  pub sizes : Sizes s (head_of s f) f.body
  pub end : ℕ
  pub trees : read_trees f.field f.depth (tree_siblings f) (f.trees - 0) 0 s f.body ≡ Whole (trees_at s f, end)

-- a tree with so many siblings that stands at a place, after positions below `base`
pub record TreeRead (s : List ℕ) (f : Layout) (n place base : ℕ) (t : Tree) : Type 0 where
  pub read : Whole (tree_of s f.field n t, t.siblings + 16 * n) ≡ read_tree f.field f.depth n base s place
  pub below : t.position < 2 ^ f.depth
  pub small : t.position < 65536
  pub room : t.siblings + 16 * tree_siblings f ≤ length s
  pub fits : t.siblings + 16 * n < 2 ^ 64
