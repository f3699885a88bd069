-- `pads_write::write::start_pairs`: the first steps of the first k pairs are written.
use mathlib.Core.Path.{◌≡◌}
use Prim.Native.Nat.{◌*◌}
use Rattle.algebra.specs.Coding.{at, over}
use Rattle.pads.specs.Bytes.{block_bytes}
use Rattle.pads.specs.Pad.{under_pad_key}
use Rattle.pads_write.proofs.write.start_pairs.Given as goal

abbrev pub invariant-loop-k : goal.invariant-loop-k
invariant-loop-k l = l.pads ≡ over block_bytes (2 * l.k) (λ i. under_pad_key (at block_bytes l.v i)) l.fn.pads
