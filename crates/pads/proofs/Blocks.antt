-- Blocks and pairs of pads in bytes: a block is written as its two words, and a pair as two blocks; both are read from their place on, and
-- the results of a pad's first step are read back.
use mathlib.Core.Path.{◌≡◌, refl, sym, ap, ◌∙◌}
use mathlib.Core.List.{List, ◌++◌, append_assoc}
use Prim.Native.Nat.{ℕ, ◌+◌, ◌-◌, ◌≤◌, ◌<◌}
use native.Mathlib.Decide.{dec_lt}
use native.Mathlib.Nat.{add-zero, add_assoc}
use native.Mathlib.Omega.{arith}
use lib.Bits.{bit_xor}
use lib.Dec.{lit<}
use lib.ListN.{length, get_or, drop, get_or-append}
use lib.Seq.{get_or-drop, get_or-append-add, drop_at, drop-drop}
use Rattle.algebra.specs.Inner.Put.{with_value}
use Rattle.algebra.proofs.Written.{Wide, Placed, Back, sets_append}
use Rattle.aes128.specs.Cipher.{aes}
use Rattle.aes128.specs.Inner.Sizes.{IsState}
use Rattle.aes128.proofs.Sizes.{four_bytes, four-words, state-bytes, aes_is}
use Rattle.field.specs.declared.block.Block.{Block}
use Rattle.field.specs.Binary.{block_add}
use Rattle.field.specs.Bytes.{le_bytes, word_at}
use Rattle.field.specs.Inner.Written.{with_word}
use Rattle.field.proofs.BinaryField.{block_eq}
use Rattle.field.proofs.ByteWords.{length-le_bytes, le_number-le_bytes-word, word-xor, low_of-below, high_of-below}
use Rattle.pads.specs.Bytes.{PadPair, block_bytes, pad_pair_bytes}
use Rattle.pads.specs.Pad.{pad_key, state, under_pad_key}

-- a block has 16 bytes, and a pair of pads 32
pub wide-block : Wide block_bytes
unfolding le_bytes
wide-block b = refl

pub wide_pair : Wide pad_pair_bytes
unfolding le_bytes
wide_pair m = refl

-- a block is written as its two words
pub two-words : (l : List ℕ) (at : ℕ) (b : Block) → with_word (with_word l at b.low) (at + 8) b.high ≡ with_value block_bytes l at b
unfolding with_word with_value le_bytes
two-words l at b = sym (sets_append l at (le_bytes 8 b.low) (le_bytes 8 b.high))

-- a pair of pads is written as two blocks
pub two_blocks : (l : List ℕ) (at : ℕ) (m : PadPair)
    → with_value block_bytes (with_value block_bytes l at m.pad0) (at + 16) m.pad1 ≡ with_value pad_pair_bytes l at m
unfolding with_value le_bytes
two_blocks l at m = sym (sets_append l at (block_bytes.words m.pad0) (block_bytes.words m.pad1))

-- equal pads make equal pairs
pair_eq : {a b x y : Block} → a ≡ x → b ≡ y → ◌≡◌ {A = PadPair} (record { pad0 = a; pad1 = b }) (record { pad0 = x; pad1 = y })
pair_eq e g = rw (e, g)

-- blocks and pairs of pads are read from their place on
pub placed-block : Placed block_bytes
unfolding word_at
placed-block l i = simp (get_or-drop, add-zero, add_assoc)

pub placed_pair : Placed pad_pair_bytes
placed_pair l i = pair_eq (placed-block l i) (placed-block l (i + 16) ∙ rw drop-drop at (sym (placed-block (drop i l) 16)))

-- a block of two words is read back
back-block : (b : Block) → b.low < 18446744073709551616 → b.high < 18446744073709551616 → Back block_bytes b
unfolding word_at le_bytes
back-block b low high rest = block_eq (le_number-le_bytes-word b.low low) (le_number-le_bytes-word b.high high)

-- and so are two pads that are read back
pub back_pair : (m : PadPair) → Back block_bytes m.pad0 → Back block_bytes m.pad1 → Back pad_pair_bytes m
back_pair m back0 back1 rest =
    let w0 = block_bytes.words m.pad0 in
    let w1 = block_bytes.words m.pad1 in
    rw (append_assoc w0 w1 rest) (pair_eq (back0 (w1 ++ rest))
    (placed-block (w0 ++ (w1 ++ rest)) 16
    ∙ ap (λ (l : List ℕ). block_bytes.read l 0) (drop_at w0 (w1 ++ rest) 16 (wide-block m.pad0))
    ∙ back1 rest))

-- the bytes of a sum of two blocks, each read from its place, are the exclusive ors of their bytes
pub block-xor : (l r : List ℕ) (i j : ℕ) → ((k : ℕ) → get_or l k 0 < 256) → ((k : ℕ) → get_or r k 0 < 256) → i + 16 ≤ length l → j + 16 ≤ length r
    → (k : ℕ) → k < 16 → get_or (block_bytes.words (block_add (block_bytes.read l i) (block_bytes.read r j))) k 0 ≡ bit_xor (get_or l (i + k) 0) (get_or r (j + k) 0)
block-xor l r i j left right lroom rroom k h =
    let low = le_bytes 8 (bit_xor (word_at l i) (word_at r j)) in
    let high = le_bytes 8 (bit_xor (word_at l (i + 8)) (word_at r (j + 8))) in
    let eight : length low ≡ 8 = length-le_bytes 8 (bit_xor (word_at l i) (word_at r j)) in
    elim (dec_lt k 8) [
      | yes s ↦ get_or-append low high 0 k (omega arith) ∙ word-xor l r i j left right (omega arith) (omega arith) k s
      | no s ↦
          let m = k - 8 in
          let place : k ≡ length low + m = omega arith in
          let there : (n : ℕ) → n + 8 + m ≡ n + k = λ n. omega arith in
          ap (λ (n : ℕ). get_or (low ++ high) n 0) place
          ∙ get_or-append-add low high m 0
          ∙ word-xor l r (i + 8) (j + 8) left right (omega arith) (omega arith) m (omega arith)
          ∙ rw (there i, there j)
    ]

-- the pads' key is four columns of four bytes
pad-key_is : IsState pad_key
unfolding pad_key
pad-key_is =
    let byte : 255 < 256 = lit< tt in
    let w = four_bytes byte byte byte byte in
    four-words w w w w

-- the first step's result is read back
pub back_step : (w : Block) → Back block_bytes (under_pad_key w)
unfolding under_pad_key
back_step w =
    let s = aes pad_key (state w) in
    let bytes = state-bytes s (aes_is pad_key pad-key_is (state w)) in
    back-block (under_pad_key w) (low_of-below s bytes) (high_of-below s bytes)
