-- Inner: no promise cites this file. What is written of a dealing's trees, and when it can be written at a place.
use Rattle.std.specs.Prelude.{◌≡◌, List, [], ◌∷◌, map, ℕ, ◌-◌, ◌*◌, ◌/◌, ◌^◌, ◌≤◌, ◌<◌, length, get_or}
use Rattle.algebra.specs.Expansion.{Rising, correction}
use Rattle.field.specs.Kind.{kind_of}
use Rattle.number.specs.Inner.Written.{Room}
use Rattle.record.specs.Content.{NoiseTree}
use Rattle.record.specs.Writing.{write_tree, write_trees, write_noise, write_scalar}
use Rattle.record.specs.Inner.Heads.{scalar_with}
use Rattle.record.specs.Inner.Lengths.{Writable, tree_start_bytes}
use Rattle.record.specs.declared.Layout.{Layout}
use Rattle.tree.specs.Child.{child}
use Rattle.tree.specs.Columns.{columns_bytes}
use Rattle.tree.specs.Tree.{siblings, listed, leaf_at}
use Rattle.dealing.specs.Admitted.{Admitted}
use Rattle.dealing.specs.Input.{Input, words_of}
use Rattle.dealing.specs.Parts.{noise_tree, noise_part}
use Rattle.dealing_call.specs.declared.noise.Planned.{Planned}
use Rattle.dealing.specs.Inner.Steps.{input_from}

-- the noise record of an admitted input can be written at the front of a buffer of this length
pub record NoisePlaced (f : Layout) (I : Input) (n : ℕ) : Type 0 where
  pub writable : Writable f
  pub admitted : Admitted I
  pub room : length (write_noise (noise_part I)) ≤ n

-- the scalar record of these can be written at the front of a buffer of this length
pub record ScalarPlaced (f : Layout) (code_key label delta roots : List ℕ) (n : ℕ) : Type 0 where
  pub writable : Writable f
  pub key-bytes : length code_key ≡ 16
  pub label-bytes : length label ≡ 16
  pub delta-bytes : length delta ≡ 16
  pub root-bytes : length roots ≡ 16 * f.trees
  pub room : length (write_scalar (scalar_with f code_key label (words_of f.field delta) roots)) ≤ n

-- the words of a tree's correction, from its leaf, its noise value and Δ
unfoldable pub correction_words : ℕ → List (List ℕ) → ℕ → List ℕ → List ℕ
correction_words field leaf value delta =
    (kind_of field).field.elements.words
    (correction (kind_of field).field.scaled ((kind_of field).field.elements.read (words_of field delta) 0) ((kind_of field).leaf leaf)
    ((kind_of field).field.noise_values.read (value ∷ []) 0))

-- tree i of these positions and noise values, after positions below `base`, at a place
abbrev pub planned : Layout → List ℕ → List ℕ → ℕ → ℕ → ℕ → Planned
planned f positions values i base at =
    record {
      layout = f;
      position = get_or positions i 0;
      value = get_or values i 0;
      base = base;
      at = at;
    }

-- a tree up to its siblings, from the leaf at its position
unfoldable pub planned_bytes : Planned → List (List ℕ) → List ℕ → List ℕ
planned_bytes t leaf delta = tree_start_bytes t.layout.field (t.position - t.base) t.value (correction_words t.layout.field leaf t.value delta)

-- the tree of these numbers, this root and Δ
abbrev pub planned_tree : Planned → List (List ℕ) → List ℕ → NoiseTree
planned_tree t root delta =
    record {
      position = t.position;
      value = t.value;
      correction = correction_words t.layout.field (leaf_at (2 ^ t.layout.branch_bits) child (t.layout.depth / t.layout.branch_bits) root t.position) t.value delta;
      siblings = map columns_bytes (siblings (2 ^ t.layout.branch_bits) child (t.layout.depth / t.layout.branch_bits) root t.position);
    }

-- a tree can be written at its place
pub record Placed (t : Planned) (root : List (List ℕ)) (delta out : List ℕ) : Type 0 where
  pub depth : t.layout.depth ≤ 16
  pub branch_least : 1 ≤ t.layout.branch_bits
  pub branch-most : t.layout.branch_bits ≤ 3
  pub scalar : length delta ≡ 16
  pub rising : t.base ≤ t.position
  pub below : t.position < 65536
  pub room : Room out t.at (write_tree t.layout.field t.base (planned_tree t root delta))

-- the trees of a noise record, one after the other
abbrev pub trees_bytes : Layout → List ℕ → List ℕ → List ℕ → List ℕ → List ℕ
trees_bytes f roots positions values delta =
    write_trees f.field 0 (listed f.trees (noise_tree (input_from f roots positions values delta [] [])))

-- the trees can be written after the head
pub record TreesPlaced (f : Layout) (roots positions values delta out : List ℕ) : Type 0 where
  pub depth : f.depth ≤ 16
  pub branch_least : 1 ≤ f.branch_bits
  pub branch-most : f.branch_bits ≤ 3
  pub trees : f.trees ≤ 64
  pub root-bytes : length roots ≡ 16 * f.trees
  pub position-count : length positions ≡ f.trees
  pub value-count : length values ≡ f.trees
  pub scalar : length delta ≡ 16
  pub rising : Rising f.trees (λ i. get_or positions i 0)
  pub below : (i : ℕ) → i < f.trees → get_or positions i 0 < 2 ^ f.depth
  pub room : Room out f.body (trees_bytes f roots positions values delta)
