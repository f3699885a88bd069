-- Blocks in bytes (document 01, 'Pads': a block's bytes are its two words, each LE).
use Rattle.std.specs.Prelude.{◌++◌, ◌+◌}
use Rattle.algebra.specs.Coding.{Coding}
use Rattle.field.specs.declared.block.Block.{Block}
use Rattle.field.specs.Binary.{block}
use Rattle.field.specs.Bytes.{le_bytes, word_at}

-- a block takes 16 bytes: its two words, each LE
abbrev pub block_bytes : Coding Block
block_bytes =
    record {
      width = 16;
      words = λ b. le_bytes 8 b.low ++ le_bytes 8 b.high;
      read = λ l k. block (word_at l k) (word_at l (k + 8));
    }

-- pads 0 and 1 of an output
pub record PadPair : Type 0 where
  pub pad0 : Block
  pub pad1 : Block

-- they take 32 bytes: pad 0, then pad 1
abbrev pub pad_pair_bytes : Coding PadPair
pad_pair_bytes =
    record {
      width = 32;
      words = λ m. block_bytes.words m.pad0 ++ block_bytes.words m.pad1;
      read = λ l k. record { pad0 = block_bytes.read l k; pad1 = block_bytes.read l (k + 16) };
    }
