-- `pads_messages::mask::write_opened`: the first k outputs' messages are written.
use Rattle.std.proofs.Common.{◌≡◌}
use Rattle.algebra.specs.Coding.{over}
use Rattle.pads.specs.Messages.Bytes.{sixteen}
use Rattle.pads.specs.Messages.Calls.{opened_of}
use Rattle.pads_messages.proofs.mask.write_opened.Given as goal

abbrev pub invariant-loop-k : goal.invariant-loop-k
invariant-loop-k l = l.messages_out ≡ over sixteen l.k (opened_of l.wanted l.pads l.answers) l.fn.messages_out
