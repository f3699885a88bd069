-- `ends_calls::accepted::NoiseRecord::read` meets its contract: the refusal is passed on, or the record is accepted. Assumes nothing.
use Rattle.std.proofs.Common.{refl, sym}
use Rattle.answer.proofs.Refusals.{passed_on}
use Rattle.record.proofs.Callers.{noise-refused}
use Rattle.ends.proofs.noise.Content.{ready}
use Rattle.ends_calls.proofs.accepted.NoiseRecord.read.Goals as goal

pub returns-in_err-layout : goal.returns-in_err-layout
returns-in_err-layout c = rw (passed_on c.from_residual.result c.from_residual.ensures.1) (sym (noise-refused _ (sym c.in_err-layout.ensures)))

pub returns : goal.returns
returns c = (refl, sym (ready _ c.in_ok-layout.ensures).read)

pub invariant_of-result : goal.invariant_of-result
invariant_of-result c = record { accepted = c.in_ok-layout.ensures; sizes = (ready _ c.in_ok-layout.ensures).sizes }
