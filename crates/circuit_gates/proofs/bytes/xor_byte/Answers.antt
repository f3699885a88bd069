-- `circuit_gates::bytes::xor_byte` meets its contract, by the tests. Assumes nothing.
use Rattle.circuit_run.specs.Inner.RoundGates.{xor_byte_by}
use Rattle.circuit_gates.proofs.bytes.xor_byte.Goals as goal
use Rattle.circuit_gates.proofs.bytes.xor_byte.Goals.{else-is_known-via-then-is_known+else-is_known-2, else-is_known-via-else-is_known}

pub returns-then-is_known-2 : goal.returns-then-is_known-2
unfolding xor_byte_by
returns-then-is_known-2 c =
    rw (← c.if-is_known.ensures, ← c.if-is_known-2.ensures, ← c.share_of.ensures, ← c.share_of-then-is_known-2.ensures) c.known_as.ensures

pub returns : goal.returns
unfolding xor_byte_by
returns c =
    elim c.else-is_known.branch [
      | else-is_known-via-then-is_known+else-is_known-2 w ↦ rw (← w.if-is_known.ensures, ← w.if-is_known-2.ensures)
      | else-is_known-via-else-is_known w ↦ rw (← w.if-is_known.ensures)
    ]
