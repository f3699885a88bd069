-- Nodes as blocks of two words and as four columns: each form from the other, in bytes, the sum in both, and a child in both.
use mathlib.Core.Path.{◌≡◌, ap, ap₂, sym, ◌∙◌}
use mathlib.Core.List.{List, [], ◌++◌}
use Prim.Native.Nat.{ℕ, ◌+◌, ◌/◌, ◌<◌}
use native.Mathlib.Omega.{arith}
use mir.Val.{Val}
use denote.Laws.{Is}
use denote.Struct.Declared.{row}
use lib.ListN.{get_or}
use lib.Seq.{sets}
use Rattle.field.specs.Bytes.{le_number, le_bytes, word_at, columns_of, low_of, high_of, four_at}
use Rattle.field.specs.Binary.{block, block_of, block_add, block_leaf}
use Rattle.prime.specs.Prime.{prime_reduce}
use Rattle.field.specs.Kind.{prime_leaf}
use Rattle.field.specs.Inner.Written.{with_word}
use Rattle.field.specs.declared.block.Block.{Block}
use Rattle.field.specs.contracts.block.Block.{the_type}
use Rattle.field.proofs.ByteWords.{length-le_bytes, le_number-le_bytes-word}
use Rattle.aes128.specs.Inner.Sizes.{IsWord, IsState}
use Rattle.aes128.specs.Inner.Blocks.{cipher_of}
use Rattle.aes128.proofs.Columns.{columns-xor, columns_of_block}
pub use Rattle.aes128.proofs.Given.{given-state}
use Rattle.aes128.proofs.Sizes.{four_bytes, four-words, columns_of_cipher}
use Rattle.algebra.proofs.Written.{sets_append}
use Rattle.tree.specs.Child.{child_by}
use Rattle.tree.specs.Inner.Keys.{keys_for}
use Rattle.tree.specs.Columns.{columns_at, columns_bytes}
use Rattle.tree.specs.Inner.Nodes.{node_of}

-- two words
pub record IsBlock (s : Block) : Type 0 where
  pub low : s.low < 18446744073709551616
  pub high : s.high < 18446744073709551616

-- a block that a function is given or gets has two words
pub given-block : (s : Block) (vs : List Val) → Is (row the_type) s vs → IsBlock s
given-block s vs g = record { low = g.1.1.0.1; high = g.1.1.1.0.1 }

-- ---- columns and words

-- the node of a state's block
pub node_of_columns : (s : List (List ℕ)) {b : Block} → IsState s → b ≡ block_of s → node_of b ≡ s
node_of_columns s h e = ap node_of e ∙ columns_of_block s h

-- bytes from a place on are a state
pub columns-state : (bytes : List ℕ) (at : ℕ) → ((i : ℕ) → get_or bytes i 0 < 256) → IsState (columns_at bytes at)
unfolding columns_at
columns-state bytes at b = four-words (word at) (word (at + 4)) (word (at + 8)) (word (at + 12))
  where
    word : (k : ℕ) → IsWord (four_at bytes k [])
    word k = four_bytes (b k) (b (k + 1)) (b (k + 2)) (b (k + 3))

-- the node whose bytes stand at a place
pub node_at : (bytes : List ℕ) (at : ℕ) {s : Block} → ((i : ℕ) → get_or bytes i 0 < 256) → s.low ≡ word_at bytes at → s.high ≡ word_at bytes (at + 8)
    → node_of s ≡ columns_at bytes at
unfolding columns_of columns_at low_of high_of word_at
node_at bytes at {s} b el eh =
    ap₂ columns_of (el ∙ eight at (omega arith)) (eh ∙ eight (at + 8) (omega arith)) ∙ columns_of_block (columns_at bytes at) (columns-state bytes at b)
  where
    eight : (k : ℕ) {j : ℕ} → k + 4 ≡ j → word_at bytes k ≡ le_number (four_at bytes k (four_at bytes j []))
    eight k e = rw (← e) (cc (past 1, past 2, past 3))
      where
        past : (n : ℕ) → k + (4 + n) ≡ k + 4 + n
        past n = omega arith

-- the eight bytes of a word as two columns
eight-bytes : (x : ℕ) → le_bytes 8 x ≡ four_at (le_bytes 4 x) 0 (four_at (le_bytes 4 (x / 4294967296)) 0 [])
unfolding le_bytes
eight-bytes x = let e : x / 256 / 256 / 256 / 256 ≡ x / 4294967296 = omega arith in cc

-- the block of a block's node is the block
low_of_node : (s : Block) → IsBlock s → low_of (node_of s) ≡ s.low
unfolding low_of columns_of
low_of_node s h = ap le_number (sym (eight-bytes s.low)) ∙ le_number-le_bytes-word s.low h.low

high_of_node : (s : Block) → IsBlock s → high_of (node_of s) ≡ s.high
unfolding high_of columns_of
high_of_node s h = ap le_number (sym (eight-bytes s.high)) ∙ le_number-le_bytes-word s.high h.high

-- so the element of a leaf in either field is its block's, and its first word's
pub leaf-block : {s : Block} {x : List (List ℕ)} → IsBlock s → node_of s ≡ x → s ≡ block_leaf x
leaf-block {s} h e = ap₂ block (sym (low_of_node s h)) (sym (high_of_node s h)) ∙ ap block_of e

pub leaf-prime : {s : Block} {x : List (List ℕ)} → IsBlock s → node_of s ≡ x → prime_reduce s.low ≡ prime_leaf x
leaf-prime {s} h e = ap prime_reduce (sym (low_of_node s h)) ∙ ap prime_leaf e

-- a node's bytes written as two words
pub sets-node : (l : List ℕ) {l₁ l₂ : List ℕ} (at : ℕ) (s : Block) → l₁ ≡ with_word l at s.low → l₂ ≡ with_word l₁ (at + 8) s.high
    → l₂ ≡ sets l at (columns_bytes (node_of s))
unfolding with_word columns_bytes columns_of
sets-node l at s e₁ e₂ =
    e₂
    ∙ ap (λ k. sets k (at + 8) (le_bytes 8 s.high)) e₁
    ∙ ap (λ n. sets (sets l at (le_bytes 8 s.low)) (at + n) (le_bytes 8 s.high)) (sym (length-le_bytes 8 s.low))
    ∙ sym (sets_append l at (le_bytes 8 s.low) (le_bytes 8 s.high))
    ∙ ap₂ (λ a b. sets l at (a ++ b)) (eight-bytes s.low) (eight-bytes s.high)

-- ---- children

-- child c of a block, as the cipher's block and the sum with the block
pub child-block : (keys : List (List ℕ)) (c : ℕ) (s : Block) {r t : Block} → r ≡ cipher_of (get_or keys c []) s → t ≡ block_add r s
    → node_of t ≡ child_by (keys_for keys) c (node_of s)
unfolding child_by
child-block keys c s er et =
    let r = cipher_of (get_or keys c []) s in
    cc (columns-xor r.low s.low r.high s.high, columns_of_cipher (get_or keys c []) s)
