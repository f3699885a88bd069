-- `pads_write::write::finish_both_pads`: the pads of the first k outputs are finished, and the rest stands as it was.
use mathlib.Core.Path.{◌≡◌}
use Prim.Native.Nat.{◌+◌}
use Rattle.algebra.specs.Coding.{at, over}
use Rattle.pads.specs.Bytes.{pad_pair_bytes}
use Rattle.pads.specs.Inner.Passes.{second_steps}
use Rattle.pads_write.proofs.write.finish_both_pads.Given as goal

abbrev pub invariant-loop-k : goal.invariant-loop-k
invariant-loop-k l = l.pads ≡ over pad_pair_bytes l.k (λ i. second_steps (l.first + i) (at pad_pair_bytes l.fn.pads i)) l.fn.pads
