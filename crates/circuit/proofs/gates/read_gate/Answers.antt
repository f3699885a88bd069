-- `circuit::gates::read_gate` meets its contract: each return gives what the definition says after the fields read. Assumes nothing.
use Rattle.std.proofs.Common.{ne_eqb}
use Rattle.answer.proofs.Refusals.{passed_on}
use Rattle.circuit.specs.Reading.{read_gate}
use Rattle.circuit.proofs.gates.read_gate.Goals as goal

pub returns-in_err-kind : goal.returns-in_err-kind
unfolding read_gate
returns-in_err-kind c = rw (passed_on c.from_residual.result c.from_residual.ensures.1, ← c.in_err-kind.ensures)

pub returns-in_err-first : goal.returns-in_err-first
unfolding read_gate
returns-in_err-first c =
    rw (passed_on c.from_residual-in_err-first.result c.from_residual-in_err-first.ensures.1)
    (simp (← c.in_ok-kind.ensures, ← c.in_err-first.ensures))

pub returns-then-kind-eq-NOT : goal.returns-then-kind-eq-NOT
unfolding read_gate
returns-then-kind-eq-NOT c = simp (← c.in_ok-kind.ensures, ← c.in_ok-first.ensures, c.if-kind-eq-NOT.true)

pub returns-in_err-second : goal.returns-in_err-second
unfolding read_gate
returns-in_err-second c =
    rw (passed_on c.from_residual-in_err-second.result c.from_residual-in_err-second.ensures.1)
    (simp (← c.in_ok-kind.ensures, ← c.in_ok-first.ensures, ne_eqb _ _ c.if-kind-eq-NOT.false, ← c.in_err-second.ensures))

pub returns-then-kind-eq-XOR : goal.returns-then-kind-eq-XOR
unfolding read_gate
returns-then-kind-eq-XOR c =
    simp (← c.in_ok-kind.ensures, ← c.in_ok-first.ensures, ne_eqb _ _ c.if-kind-eq-NOT.false, ← c.in_ok-second.ensures, c.if-kind-eq-XOR.true)

pub returns : goal.returns
unfolding read_gate
returns c =
    simp (
      ← c.in_ok-kind.ensures,
      ← c.in_ok-first.ensures,
      ne_eqb _ _ c.if-kind-eq-NOT.false,
      ← c.in_ok-second.ensures,
      ne_eqb _ _ c.if-kind-eq-XOR.false,
    )
