-- The content of key records (document 01, 'Sizes', 'Key records').
use Rattle.std.specs.Prelude.{ℕ, ◌-◌, ◌*◌, ◌/◌, ◌^◌, List, [], get_or}

-- the head: field, d, g (document 02, 10), t, ℓ, n, the 16 bytes of the code key and those of the
-- label (document 02, 8)
pub record Head : Type 0 where
  pub field : ℕ
  pub depth : ℕ
  pub branch_bits : ℕ
  pub trees : ℕ
  pub terms : ℕ
  pub outputs : ℕ
  pub code_key : List ℕ
  pub label : List ℕ

-- the siblings of a tree of depth d with 2^g children a node: the other children at each of d / g levels (document 02, 10)
unfoldable pub sibling_count : ℕ → ℕ → ℕ
sibling_count depth branch_bits = depth / branch_bits * (2 ^ branch_bits - 1)

-- a punctured tree: position, noise value, the correction as its words, the sibling blocks of 16 bytes, top first and each
-- level's in rising order
pub record NoiseTree : Type 0 where
  pub position : ℕ
  pub value : ℕ
  pub correction : List ℕ
  pub siblings : List (List ℕ)

-- the noise record: the head, then t trees
pub record NoisePart : Type 0 where
  pub head : Head
  pub trees : List NoiseTree

-- the scalar record: the head, then Δ as its words, then t roots of 16 bytes
pub record ScalarPart : Type 0 where
  pub head : Head
  pub delta : List ℕ
  pub roots : List (List ℕ)

-- tree i of a list of trees
abbrev pub tree_in : List NoiseTree → ℕ → NoiseTree
tree_in ts i = get_or ts i (record { position = 0; value = 0; correction = []; siblings = [] })
