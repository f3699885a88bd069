-- What is made with the cipher is what is made with the one that looks up: leaves, the vectors of a dealing, rows and pads.
use mathlib.Core.Path.{◌≡◌, ap, ◌∙◌}
use mathlib.Core.List.{List, map}
use Prim.Native.Nat.{ℕ, ◌/◌, ◌^◌}
use Rattle.algebra.specs.Field.{Value}
use Rattle.algebra.specs.Row.{Row}
use Rattle.aes128.specs.State.{xor_state}
use Rattle.aes128.specs.Cipher.{key_expansion, aes}
use Rattle.field.specs.declared.block.Block.{Block}
use Rattle.field.specs.Binary.{block_add, block_of}
use Rattle.field.specs.Bytes.{columns_of, low_of, high_of}
use Rattle.tree.specs.Child.{child_key, child}
use Rattle.tree.specs.Columns.{columns_at, columns_bytes}
use Rattle.tree.specs.Tree.{leaf_at, siblings}
use Rattle.code.specs.Row.{place_of, term_block, term_place, row_of_blocks}
use Rattle.record.specs.Content.{Head}
use Rattle.window.specs.Head.{kind, field_of, places, row}
use Rattle.dealing.specs.Input.{Input, position}
use Rattle.dealing.specs.Parts.{noise_tree}
use Rattle.dealing.specs.Vectors.{head, field, root, leaf}
use Rattle.pads.specs.Pad.{pad_key, index_block, state, under_pad_key, pad}
use Rattle.example.proofs.Cipher.{looked_cipher, looked_keys, cipher_looked, keys_looked}

-- E(key, block)
unfoldable pub looked_aes : List (List ℕ) → List (List ℕ) → List (List ℕ)
looked_aes key block = looked_cipher (looked_keys key) block

pub aes_looked : (key block : List (List ℕ)) → aes key block ≡ looked_aes key block
unfolding aes looked_aes
aes_looked key block = cipher_looked (key_expansion key) block ∙ ap (λ k. looked_cipher k block) (keys_looked key)

-- ---- trees

unfoldable pub looked_child : ℕ → List (List ℕ) → List (List ℕ)
looked_child c s = xor_state (looked_aes (child_key c) s) s

pub child_looked : child ≡ looked_child
unfolding child looked_child
child_looked i c s = xor_state (aes_looked (child_key c) s i) s

-- ---- the vectors of a dealing, over any child function

module _ (grow : ℕ → List (List ℕ) → List (List ℕ)) (I : Input) where
  unfoldable pub leaf_by : ℕ → ℕ → Value (field I)
  leaf_by i j = (kind (head I)).leaf (leaf_at (2 ^ I.branch_bits) grow (I.depth / I.branch_bits) (root I i) j)

  unfoldable pub siblings_by : ℕ → List (List ℕ)
  siblings_by i = map columns_bytes (siblings (2 ^ I.branch_bits) grow (I.depth / I.branch_bits) (root I i) (position I i))

module _ (I : Input) where
  pub leaf_looked : leaf I ≡ leaf_by looked_child I
  unfolding leaf_by
  leaf_looked i = leaf_by (child_looked i) I

  pub siblings_looked : (i : ℕ) → (noise_tree I i).siblings ≡ siblings_by looked_child I i
  unfolding siblings_by noise_tree
  siblings_looked i j = siblings_by (child_looked j) I i

-- ---- rows

-- row x where this is the block that a term's is encrypted to
unfoldable pub row_by : (List (List ℕ) → List (List ℕ)) → (h : Head) → ℕ → Row (field_of h).ring
row_by encrypt h x =
    record {
      terms = h.terms;
      place = λ i. place_of (places h) h.terms i (low_of (encrypt (columns_of x i)));
      coefficient = λ i. (kind h).coefficient (high_of (encrypt (columns_of x i)));
    }

unfoldable pub looked_row : (h : Head) → ℕ → Row (field_of h).ring
looked_row h x = row_by (looked_aes (columns_at h.code_key 0)) h x

pub row_looked : (h : Head) (x : ℕ) → row h x ≡ looked_row h x
unfolding aes row_of_blocks term_place term_block row_by looked_row
row_looked h x i = row_by (λ s. aes_looked (columns_at h.code_key 0) s i) h x

-- ---- pads

-- E(16 bytes FF, b)
unfoldable pub looked_under : Block → Block
looked_under b = block_of (looked_aes pad_key (state b))

pub under_looked : (b : Block) → under_pad_key b ≡ looked_under b
unfolding under_pad_key looked_under
under_looked b = ap block_of (aes_looked pad_key (state b))

-- the pad rule over the cipher under the pad key
unfoldable pub pad_by : (Block → Block) → ℕ → Block → Block
pad_by under x w = let a = under w in block_add (under (block_add a (index_block x))) a

unfoldable pub looked_pad : ℕ → Block → Block
looked_pad = pad_by looked_under

pub pad_looked : pad ≡ looked_pad
unfolding pad pad_by looked_pad
pad_looked i = pad_by (λ b. under_looked b i)
