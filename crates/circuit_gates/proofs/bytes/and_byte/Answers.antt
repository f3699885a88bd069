-- `circuit_gates::bytes::and_byte` meets its contract, by the tests. Assumes nothing.
use borrow.Author.Tests.{ne_eqb}
use Rattle.circuit_run.proofs.Numbers.{tests}
use Rattle.circuit_run.specs.Inner.RoundGates.{and_byte_by}
use Rattle.circuit_gates.proofs.bytes.and_byte.Goals as goal
use Rattle.circuit_gates.proofs.bytes.and_byte.Goals.{else-is_known-via-then-is_known+else-is_known-2, else-is_known-via-else-is_known}

pub returns-then-own-eq-WAITS : goal.returns-then-own-eq-WAITS
unfolding and_byte_by
returns-then-own-eq-WAITS c = search tests

pub returns-then-is_known-2 : goal.returns-then-is_known-2
unfolding and_byte_by
returns-then-is_known-2 c =
    rw (ne_eqb c.args.own 1 c.if-own-eq-WAITS.false, ← c.if-is_known.ensures, ← c.if-is_known-2.ensures)

pub returns : goal.returns
unfolding and_byte_by
returns c =
    rw (ne_eqb c.args.own 1 c.if-own-eq-WAITS.false)
    (elim c.else-is_known.branch [
      | else-is_known-via-then-is_known+else-is_known-2 w ↦ rw (← w.if-is_known.ensures, ← w.if-is_known-2.ensures)
      | else-is_known-via-else-is_known w ↦ rw (← w.if-is_known.ensures)
    ])
