-- The pad rule (document 01, 'Pads', as document 02, 4 replaces it). A rule is any function of the index and the block; the
-- index counts from the start of the dealing's outputs.
use Rattle.std.specs.Prelude.{List, ℕ}
use Rattle.aes128.specs.State.{four}
use Rattle.aes128.specs.Cipher.{aes}
use Rattle.field.specs.declared.block.Block.{Block}
use Rattle.field.specs.Binary.{block, block_add, block_of}
use Rattle.field.specs.Bytes.{columns_of}
use Rattle.pads.specs.Bytes.{PadPair}

-- what gives the pad of an index and a block
abbrev pub Rule : Type 0
Rule = ℕ → Block → Block

-- 16 bytes FF
unfoldable pub pad_key : List (List ℕ)
pad_key = four (λ c. four (λ r. 255))

-- the 16-byte LE block of an index, which is a word
abbrev pub index_block : ℕ → Block
index_block x = block x 0

-- the 16 bytes of a block as the cipher's state
abbrev pub state : Block → List (List ℕ)
state b = columns_of b.low b.high

-- E(16 bytes FF, b)
unfoldable pub under_pad_key : Block → Block
under_pad_key b = block_of (aes pad_key (state b))

-- the pad of index x and block w, in two steps: with a = E(16 bytes FF, w), E(16 bytes FF, a exclusive-or the index block)
-- exclusive-or a (document 02, 4)
unfoldable pub pad : Rule
pad x w = let a = under_pad_key w in block_add (under_pad_key (block_add a (index_block x))) a

-- pads 0 and 1 of index x, document 01's messages: the pad of w, then that of w exclusive-or Δ
unfoldable pub pad_pair : Rule → ℕ → Block → Block → PadPair
pad_pair rule x w Δ = record { pad0 = rule x w; pad1 = rule x (block_add w Δ) }
