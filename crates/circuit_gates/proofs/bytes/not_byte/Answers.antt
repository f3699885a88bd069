-- `circuit_gates::bytes::not_byte` meets its contract, by the tests. Assumes nothing.
use Rattle.circuit_run.specs.Inner.RoundGates.{not_byte_by}
use Rattle.circuit_gates.proofs.Leaves.{not-small}
use Rattle.circuit_gates.proofs.bytes.not_byte.Goals as goal

pub known_as-requires : goal.known_as-requires
known_as-requires c = not-small c.args.role c.args.x c.share_of.ensures c.flip.ensures

pub returns-then-is_known : goal.returns-then-is_known
unfolding not_byte_by
returns-then-is_known c = rw (← c.if-is_known.ensures, ← c.share_of.ensures, ← c.flip.ensures) c.known_as.ensures

pub returns : goal.returns
unfolding not_byte_by
returns c = rw (← c.if-is_known.ensures)
