-- The pad rule in two steps: the second step of the first step is the pad.
use mathlib.Core.Path.{◌≡◌}
use Prim.Native.Nat.{ℕ}
use Rattle.field.specs.declared.block.Block.{Block}
use Rattle.pads.specs.Inner.Passes.{second_step}
use Rattle.pads.specs.Pad.{under_pad_key, pad}

pub pad_is : (x : ℕ) (w s r : Block) → s ≡ under_pad_key w → r ≡ second_step x s → r ≡ pad x w
unfolding pad second_step
pad_is x w s r se re = rw (re, se)
