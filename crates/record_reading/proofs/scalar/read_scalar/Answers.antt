-- `record_reading::scalar::read_scalar` meets its contract: one law for each return. Assumes nothing.
use Rattle.answer.proofs.Refusals.{passed_on}
use Rattle.record_reading.proofs.Records.{scalar-refused, roots_fit, delta-refused, roots-refused, scalar-after, scalar-whole}
use Rattle.record_reading.proofs.scalar.read_scalar.Goals as goal

pub returns-in_err-layout : goal.returns-in_err-layout
returns-in_err-layout c = rw (passed_on c.from_residual.result c.from_residual.ensures.1) (scalar-refused _ c.in_err-layout.ensures)

pub returns-in_err-at : goal.returns-in_err-at
returns-in_err-at c =
    rw (passed_on c.from_residual-in_err-at.result c.from_residual-in_err-at.ensures.1) (delta-refused _ c.in_ok-layout.ensures c.in_err-at.ensures)

pub overflow_mul-layout : goal.overflow_mul-layout
overflow_mul-layout c = roots_fit _ c.in_ok-layout.ensures

pub returns-in_err-end : goal.returns-in_err-end
returns-in_err-end c =
    rw (passed_on c.from_residual-in_err-end.result c.from_residual-in_err-end.ensures.1)
    (roots-refused _ c.in_ok-layout.ensures c.in_ok-at.ensures c.in_err-end.ensures)

pub returns-then-end-source : goal.returns-then-end-source
returns-then-end-source c = scalar-after _ c.in_ok-layout.ensures c.in_ok-at.ensures c.in_ok-end.ensures c.if-end-source.true

pub returns : goal.returns
returns c = scalar-whole _ c.in_ok-layout.ensures c.in_ok-at.ensures c.in_ok-end.ensures c.if-end-source.false
