-- Inner: no promise cites this file. The trees of a noise record in a table, what the functions of a walk are
-- asked, and where the walk to a leaf starts.
use Rattle.std.specs.Prelude.{Bool, false, ◌≡◌, List, ℕ, zero, suc, ◌+◌, ◌*◌, ◌/◌, ◌^◌, ◌≤◌, ◌<◌, eqb, length, get_or}
use Rattle.algebra.specs.Choice.{choose}
use Rattle.algebra.specs.Field.{Value}
use Rattle.field.specs.Kind.{kind_of}
use Rattle.record.specs.Content.{tree_in}
use Rattle.record.specs.Answer.{head_of}
use Rattle.record.specs.Inner.Answers.{tree_of}
use Rattle.record.specs.declared.Layout.{Layout}
use Rattle.record.specs.declared.Tree.{Tree}
use Rattle.window.specs.Inner.Sizes.{Sizes}
use Rattle.tree.specs.Child.{child}
use Rattle.tree.specs.Inner.Keys.{keys_for}
use Rattle.tree.specs.Columns.{columns_at}
use Rattle.tree.specs.KeySchedules.{OfChildKeys}
use Rattle.tree.specs.Tree.{leaf_at}
use Rattle.ends.specs.Inner.Noise.{tree_siblings, trees_at}
use Rattle.ends.specs.Inner.Scalar.{roots_at}
use Rattle.ends_bench_leaves.specs.Inner.Vectors.{leaf_of}
use Rattle.tree_walk.specs.Inner.Ways.{IsWay}
use Rattle.tree_walk.specs.declared.down.Start.{Start}

-- what stands in a table where no tree does
abbrev pub no_tree : Tree
no_tree = record { position = 0; value = 0; correction = record { low = 0; high = 0 }; siblings = 0 }

-- tree i of a table
abbrev pub tree_at : List Tree → ℕ → Tree
tree_at table i = get_or table i no_tree

-- it is tree i of the record: its position is a leaf's and its siblings lie in the record
pub record IsTree (s : List ℕ) (f : Layout) (i : ℕ) (t : Tree) : Type 0 where
  pub same : tree_in (trees_at s f) i ≡ tree_of s f.field (tree_siblings f) t
  pub below : t.position < 2 ^ f.depth
  pub room : t.siblings + 16 * tree_siblings f ≤ length s

abbrev pub TreesIn : List ℕ → Layout → List Tree → ℕ → Type 0
TreesIn s f table n = (i : ℕ) → i < n → IsTree s f i (tree_at table i)

-- an accepted record by its layout, with the table of its trees, or its roots
pub record Standing (vector : ℕ) (s : List ℕ) (f : Layout) (table : List Tree) : Type 0 where
  pub sizes : Sizes s (head_of s f) f.body
  pub few : f.trees ≤ 64
  pub trees : (vector ≡ 3 → ⊥) → TreesIn s f table f.trees
  pub roots : vector ≡ 3 → roots_at f + 16 * f.trees ≤ length s

-- and the round keys of the child keys
pub record Walking (vector : ℕ) (s : List ℕ) (f : Layout) (table : List Tree) (keys : List (List ℕ)) : Type 0 where
  pub standing : Standing vector s f table
  pub own : OfChildKeys (2 ^ f.branch_bits) (keys_for keys)

-- at the noise end tree i is punctured at j
abbrev pub punctured_at : ℕ → List Tree → ℕ → ℕ → Bool
punctured_at vector table i j = choose (eqb vector 3) false (eqb (tree_at table i).position j)

-- where the walk to leaf j of tree i starts: the place of a block's bytes, and the levels left below it
pub record StartsAt (vector : ℕ) (s : List ℕ) (f : Layout) (i j : ℕ) (r : Start) : Type 0 where
  pub leaf : (kind_of f.field).leaf (leaf_at (2 ^ f.branch_bits) child r.left (columns_at s r.at) j) ≡ leaf_of vector s f i j
  pub fewer : r.left ≤ f.depth / f.branch_bits
  pub room : r.at + 16 ≤ length s

-- two starts of walks under the round keys of the child keys
pub record TwoStarts (s : List ℕ) (f : Layout) (keys : List (List ℕ)) (a b : Start) : Type 0 where
  pub own : OfChildKeys (2 ^ f.branch_bits) (keys_for keys)
  pub one : IsWay f.branch_bits a.left
  pub other : IsWay f.branch_bits b.left
  pub first_room : a.at + 16 ≤ length s
  pub second_room : b.at + 16 ≤ length s

-- the sum of the elements that they lead to
unfoldable pub two_leaves : (s : List ℕ) (f : Layout) → Start → Start → ℕ → Value (kind_of f.field).field
two_leaves s f a b j =
    (kind_of f.field).field.scaled.group.add
    ((kind_of f.field).leaf (leaf_at (2 ^ f.branch_bits) child a.left (columns_at s a.at) j))
    ((kind_of f.field).leaf (leaf_at (2 ^ f.branch_bits) child b.left (columns_at s b.at) j))

-- the noise value that a table's first n trees give place j, zero where none is punctured there
unfoldable pub noise_word : List Tree → ℕ → ℕ → ℕ
noise_word table zero j = 0
noise_word table (suc n) j = choose (eqb (tree_at table n).position j) (tree_at table n).value (noise_word table n j)
