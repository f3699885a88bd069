-- Inner: no promise cites this file. Nodes as the blocks of two words that the code goes down a tree with.
use Rattle.std.specs.Prelude.{List, ℕ}
use Rattle.field.specs.Bytes.{columns_of}
use Rattle.field.specs.declared.block.Block.{Block}

-- the node of a block: its four columns
abbrev pub node_of : Block → List (List ℕ)
node_of s = columns_of s.low s.high
