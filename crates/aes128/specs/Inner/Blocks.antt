-- Inner: no promise cites this file. The cipher on a block of two words, and words made of columns.
use Rattle.std.specs.Prelude.{◌≡◌, List, ℕ, ◌/◌, ◌^◌, ◌<◌}
use Rattle.field.specs.Binary.{block_of}
use Rattle.field.specs.Bytes.{le_bytes, columns_of}
use Rattle.field.specs.declared.block.Block.{Block}
use Rattle.aes128.specs.State.{xor_word}
use Rattle.aes128.specs.Cipher.{cipher}
use Rattle.aes128.specs.Inner.Words.{round_keys}

-- the cipher under the round keys that forty words hold, of a block of two words
abbrev pub cipher_of : List ℕ → Block → Block
cipher_of keys b = block_of (cipher (round_keys keys) (columns_of b.low b.high))

-- the number of a column's four bytes, least byte first
pub record IsHalf (x : ℕ) (column : List ℕ) : Type 0 where
  pub bytes : le_bytes 4 x ≡ column
  pub below : x < 2 ^ 32

-- the exclusive or of a word and of the word whose halves are two columns
pub record LastWord (k : ℕ) (first second : List ℕ) (x : ℕ) : Type 0 where
  pub low : le_bytes 4 x ≡ xor_word first (le_bytes 4 k)
  pub high : le_bytes 4 (x / 2 ^ 32) ≡ xor_word second (le_bytes 4 (k / 2 ^ 32))
