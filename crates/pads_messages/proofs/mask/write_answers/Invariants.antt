-- `pads_messages::mask::write_answers`: the first k outputs' answers are written.
use Rattle.std.proofs.Common.{◌≡◌}
use Rattle.algebra.specs.Coding.{over}
use Rattle.pads.specs.Messages.Bytes.{thirty_two}
use Rattle.pads.specs.Messages.Calls.{answer_of}
use Rattle.pads_messages.proofs.mask.write_answers.Given as goal

abbrev pub invariant-loop-k : goal.invariant-loop-k
invariant-loop-k l = l.answers_out ≡ over thirty_two l.k (answer_of l.bits l.pads l.messages) l.fn.answers_out
