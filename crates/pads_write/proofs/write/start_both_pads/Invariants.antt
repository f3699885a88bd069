-- `pads_write::write::start_both_pads`: the first steps of the first k outputs' pads are written.
use mathlib.Core.Path.{◌≡◌}
use Rattle.algebra.specs.Coding.{at, over}
use Rattle.pads.specs.Bytes.{block_bytes, pad_pair_bytes}
use Rattle.pads.specs.Inner.Passes.{first_steps}
use Rattle.pads_write.proofs.write.start_both_pads.Given as goal

abbrev pub invariant-loop-k : goal.invariant-loop-k
invariant-loop-k l = l.pads ≡ over pad_pair_bytes l.k (λ i. first_steps (at block_bytes l.w i) l.delta) l.fn.pads
