-- `ends_calls::scalar::online` meets its contract: one law for each return. Assumes nothing.
use Rattle.std.proofs.Common.{refl}
use Rattle.answer.proofs.Refusals.{refusal-some}
use Rattle.ends_calls.proofs.Calls.{scalar-online-fault, scalar-refused, w_fitting, scalar-words, scalar_unfit, scalar-written}
use Rattle.ends_calls.proofs.scalar.online.Goals as goal

pub returns-in-Err : goal.returns-in-Err
returns-in-Err c = rw c.refused.ensures (scalar-online-fault _ c.in-Err.ensures _ _ _ _)

pub returns-in-Err-check_window : goal.returns-in-Err-check_window
returns-in-Err-check_window c =
    rw (← c.in-Ok.ensures.0) (rw c.refused-in-Err-check_window.ensures (scalar-refused _ _ _ _ _ c.in-Ok.record.accepted c.leaves.ensures c.in-Err-check_window.ensures (refusal-some _)))

pub overflow_mul-words : goal.overflow_mul-words
overflow_mul-words c = scalar-words _ _ _ _ _ c.in-Ok.record.accepted c.leaves.ensures c.in_default.ensures refl c.element_width.ensures

pub write_rows-requires-clause-fitting : goal.write_rows-requires-clause-fitting
write_rows-requires-clause-fitting c = w_fitting _ _ _ _ _ c.in-Ok.record.accepted c.leaves.ensures c.in_default.ensures refl

pub returns-in-Err-write_rows : goal.returns-in-Err-write_rows
returns-in-Err-write_rows c =
    let w = c.in-Err-write_rows.ensures in
    rw (← c.in-Ok.ensures.0)
    (rw c.refused-in-Err-write_rows.ensures
    (scalar_unfit _ _ _ _ _ c.in-Ok.record.accepted c.leaves.ensures c.in_default.ensures refl w.elements_are _ w.told))

pub returns : goal.returns
returns c =
    let w = c.in_default-write_rows.ensures in
    rw (← c.in-Ok.ensures.0)
    (scalar-written _ _ _ _ _ c.in-Ok.record.accepted c.leaves.ensures c.in_default.ensures refl w.elements_are w.told c.element_width.ensures)
