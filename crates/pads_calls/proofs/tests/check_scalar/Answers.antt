-- `pads_calls::tests::check_scalar` meets its contract: a fault of what both ends test first is its own, and then test by test.
use Rattle.std.proofs.Common.{refl}
use Rattle.answer.proofs.Faults.{chain, fault_before, fault-after}
use Rattle.answer.proofs.Refusals.{passed_on, refusal-some}
use Rattle.pads_calls.specs.Inner.Tests.{window_tests}
use Rattle.pads_calls.proofs.tests.check_scalar.Goals as goal

pub returns-in_err-check_window : goal.returns-in_err-check_window
returns-in_err-check_window c =
    rw (passed_on c.from_residual.result c.from_residual.ensures.1)
    (fault_before (window_tests _ _ _ _ _) _ _ c.in_err-check_window.ensures (refusal-some _))

pub returns-then-not-any_above : goal.returns-then-not-any_above
returns-then-not-any_above c =
    fault-after (window_tests _ _ _ _ _) _ 0 _ refl c.in_ok-check_window.ensures refl (search chain depth 9)

pub returns-then-is_short : goal.returns-then-is_short
returns-then-is_short c =
    fault-after (window_tests _ _ _ _ _) _ 0 _ refl c.in_ok-check_window.ensures refl (search chain depth 9)

pub returns : goal.returns
returns c =
    fault-after (window_tests _ _ _ _ _) _ 0 _ refl c.in_ok-check_window.ensures refl (search chain depth 9)
