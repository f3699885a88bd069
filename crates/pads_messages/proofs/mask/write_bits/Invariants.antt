-- `pads_messages::mask::write_bits`: the first k bits are written.
use Rattle.std.proofs.Common.{◌≡◌}
use Rattle.algebra.specs.Coding.{over}
use Rattle.pads.specs.Messages.Bytes.{byte}
use Rattle.pads.specs.Messages.Calls.{correction_bit}
use Rattle.pads_messages.proofs.mask.write_bits.Given as goal

abbrev pub invariant-loop-k : goal.invariant-loop-k
invariant-loop-k l = l.bits_out ≡ over byte l.k (correction_bit l.choices l.wanted) l.fn.bits_out
