-- `ends_calls::noise::online` meets its contract: one law for each return. Assumes nothing.
use Rattle.std.proofs.Common.{refl}
use Rattle.answer.proofs.Refusals.{refusal-some}
use Rattle.ends_calls.proofs.Calls.{noise-online-fault, noise-refused, u_fitting, v_fitting, noise-words, noise_unfit, noise-written}
use Rattle.ends_calls.proofs.noise.online.Goals as goal

pub returns-in-Err : goal.returns-in-Err
returns-in-Err c = rw c.refused.ensures (noise-online-fault _ c.in-Err.ensures _ _ _ _ _ _)

pub returns-in-Err-check_window : goal.returns-in-Err-check_window
returns-in-Err-check_window c =
    rw (← c.in-Ok.ensures.0) (rw c.refused-in-Err-check_window.ensures (noise-refused _ _ _ _ _ _ _ c.in-Ok.record.accepted c.in-Err-check_window.ensures (refusal-some _)))

pub write_rows-requires-clause-fitting : goal.write_rows-requires-clause-fitting
write_rows-requires-clause-fitting c = (
  u_fitting _ _ _ _ _ _ _ c.in-Ok.record.accepted c.in_default.ensures refl,
  v_fitting _ _ _ _ _ _ _ c.in-Ok.record.accepted c.in_default.ensures refl,
)

pub returns-in-Err-write_rows : goal.returns-in-Err-write_rows
returns-in-Err-write_rows c =
    let w = c.in-Err-write_rows.ensures in
    rw (← c.in-Ok.ensures.0)
    (rw c.refused-in-Err-write_rows.ensures
    (noise_unfit _ _ _ _ _ _ _ c.in-Ok.record.accepted c.in_default.ensures refl w.u_is w.elements_are _ w.told))

pub overflow_mul-result : goal.overflow_mul-result
overflow_mul-result c = noise-words _ _ _ _ _ _ _ c.in-Ok.record.accepted c.in_default.ensures refl c.element_width.ensures

pub returns : goal.returns
returns c =
    let w = c.in_default-write_rows.ensures in
    rw (← c.in-Ok.ensures.0)
    (noise-written _ _ _ _ _ _ _ c.in-Ok.record.accepted c.in_default.ensures refl w.u_is w.elements_are w.told c.element_width.ensures refl)
