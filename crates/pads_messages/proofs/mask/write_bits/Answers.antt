-- `pads_messages::mask::write_bits` meets its contract, bit by bit.
use Rattle.std.proofs.Common.{arith, length}
use Rattle.algebra.proofs.Written.{front-none}
use Rattle.pads.proofs.Messages.Turns.{bits_more}
use Rattle.pads_messages.proofs.mask.write_bits.Goals as goal

pub loop-k-init : goal.loop-k-init
loop-k-init c = search front-none

pub loop-k-preserved : goal.loop-k-preserved
loop-k-preserved c = bits_more _ _ _ _ _ (length c.args.choices.now) (omega arith) (omega arith) c.loop-k.invariant
