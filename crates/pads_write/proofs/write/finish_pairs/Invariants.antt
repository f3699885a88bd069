-- `pads_write::write::finish_pairs`: the pads of the first k pairs are finished.
use mathlib.Core.Path.{◌≡◌}
use Prim.Native.Nat.{◌+◌, ◌*◌}
use Rattle.algebra.specs.Coding.{at, over}
use Rattle.pads.specs.Bytes.{block_bytes}
use Rattle.pads.specs.Inner.Passes.{second_step}
use Rattle.pads_write.proofs.write.finish_pairs.Given as goal

abbrev pub invariant-loop-k : goal.invariant-loop-k
invariant-loop-k l = l.pads ≡ over block_bytes (2 * l.k) (λ i. second_step (l.first + i) (at block_bytes l.fn.pads i)) l.fn.pads
