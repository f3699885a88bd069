-- Inner: no promise cites this file. The two steps of the pad rule apart, as two passes over a buffer take them.
use Rattle.std.specs.Prelude.{ℕ}
use Rattle.field.specs.declared.block.Block.{Block}
use Rattle.field.specs.Binary.{block_add}
use Rattle.pads.specs.Bytes.{PadPair}
use Rattle.pads.specs.Pad.{Rule, index_block, under_pad_key}

-- the second step: the pad of index x from the first step's result a
unfoldable pub second_step : Rule
second_step x a = block_add (under_pad_key (block_add a (index_block x))) a

-- both pads' first steps, of w and of w exclusive-or Δ
unfoldable pub first_steps : Block → Block → PadPair
first_steps w Δ = record { pad0 = under_pad_key w; pad1 = under_pad_key (block_add w Δ) }

-- both pads of index x from their first steps
unfoldable pub second_steps : ℕ → PadPair → PadPair
second_steps x m = record { pad0 = second_step x m.pad0; pad1 = second_step x m.pad1 }
