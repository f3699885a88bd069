-- `pads_messages::mask::write_opened` meets its contract, message by message.
use Rattle.std.proofs.Common.{arith}
use Rattle.algebra.proofs.Written.{front-none, front_more}
use Rattle.pads.specs.Messages.Bytes.{sixteen}
use Rattle.pads.proofs.Messages.Turns.{wide-sixteen, unmask-bit}
use Rattle.pads_messages.proofs.mask.write_opened.Goals as goal

pub loop-k-init : goal.loop-k-init
loop-k-init c = search front-none

pub put_opened-requires : goal.put_opened-requires
put_opened-requires c = (omega arith, search unmask-bit, omega arith, omega arith, omega arith)

pub loop-k-preserved : goal.loop-k-preserved
loop-k-preserved c = front_more sixteen wide-sixteen _ _ _ _ _ _ (omega arith) (omega arith) c.loop-k.invariant c.put_opened.ensures
