-- Inner: no promise cites this file. Heads that can be written, and the lengths of records from their numbers and positions.
use Rattle.std.specs.Prelude.{ℕ, ◌+◌, ◌-◌, ◌*◌, ◌≤◌, ◌<◌, List, [], ◌∷◌, ◌++◌, ◌≡◌}
use Rattle.number.specs.Number.{number_length, write_number}
use Rattle.field.specs.Inner.Elements.{element_length}
use Rattle.record.specs.Content.{sibling_count}
use Rattle.record.specs.Writing.{write_value, write_words}
use Rattle.record.specs.declared.Layout.{Layout}

-- g, t, ℓ and n
abbrev pub after_depth_bytes : Layout → List ℕ
after_depth_bytes f = write_number f.branch_bits ++ (write_number f.trees ++ (write_number f.terms ++ write_number f.outputs))

-- d, g, t, ℓ and n
abbrev pub sizes_bytes : Layout → List ℕ
sizes_bytes f = write_number f.depth ++ after_depth_bytes f

-- a tree up to its siblings: how far its position lies behind the one before, the noise value, the correction
abbrev pub tree_start_bytes : ℕ → ℕ → ℕ → List ℕ → List ℕ
tree_start_bytes field back value words = write_number back ++ (write_value field value ++ write_words words)

-- the head: two bytes, d, g, t, ℓ, n, the code key and the label
unfoldable pub head_length : ℕ → ℕ → ℕ → ℕ → ℕ → ℕ
head_length depth branch_bits trees terms outputs =
    2 + (number_length depth + number_length branch_bits + number_length trees + (number_length terms + number_length outputs)) + 32

-- the numbers of a head that can be written, and whose body begins after it
pub record Writable (f : Layout) : Type 0 where
  pub field : f.field < 256
  pub depth : f.depth ≤ 16
  pub branch_least : 1 ≤ f.branch_bits
  pub branch-most : f.branch_bits ≤ 3
  pub trees : f.trees ≤ 64
  pub terms : f.terms ≤ 32
  pub outputs : f.outputs ≤ 32768
  pub body : f.body ≡ head_length f.depth f.branch_bits f.trees f.terms f.outputs

-- a tree up to its siblings: the position, and in both fields 16 bytes for the noise value and the correction
unfoldable pub tree_start_length : ℕ → ℕ → ℕ
tree_start_length base position = number_length (position - base) + 16

-- a tree with its siblings
unfoldable pub tree_length : Layout → ℕ → ℕ → ℕ
tree_length f base position = tree_start_length base position + 16 * sibling_count f.depth f.branch_bits

-- trees at these positions
unfoldable pub trees_length : Layout → ℕ → List ℕ → ℕ
trees_length f base [] = 0
trees_length f base (p ∷ ps) = tree_length f base p + trees_length f (p + 1) ps

-- the noise record
unfoldable pub noise_length : Layout → List ℕ → ℕ
noise_length f positions = f.body + trees_length f 0 positions

-- the scalar record
unfoldable pub scalar_length : Layout → ℕ
scalar_length f = f.body + (element_length f.field + 16 * f.trees)
