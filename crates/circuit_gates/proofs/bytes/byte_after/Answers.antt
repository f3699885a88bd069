-- `circuit_gates::bytes::byte_after` meets its contract: a known byte stays, another is that of the gate. Assumes nothing.
use Rattle.circuit_run.specs.Inner.RoundGates.{byte_by}
use Rattle.circuit_gates.proofs.bytes.byte_after.Goals as goal

pub returns-then-is_known : goal.returns-then-is_known
unfolding byte_by
returns-then-is_known c = rw (← c.if-is_known.ensures)

pub returns-in-Xor : goal.returns-in-Xor
unfolding byte_by
returns-in-Xor c = rw (c.in-Xor.is, ← c.if-is_known.ensures) c.xor_byte.ensures

pub returns-in-And : goal.returns-in-And
unfolding byte_by
returns-in-And c = rw (c.in-And.is, ← c.if-is_known.ensures) c.and_byte.ensures

pub returns-in-Not : goal.returns-in-Not
unfolding byte_by
returns-in-Not c = rw (c.in-Not.is, ← c.if-is_known.ensures) c.not_byte.ensures
