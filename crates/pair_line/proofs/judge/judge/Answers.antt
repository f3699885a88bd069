-- `pair_line::judge::judge` meets its contract: a record is refused, or both are accepted.
use Rattle.answer.proofs.Refusals.{passed_on}
use Rattle.ends.proofs.noise.Content as noise
use Rattle.ends.proofs.scalar.Content as scalar
use Rattle.pair_line.proofs.Judged.{noise-number, scalar-number}
use Rattle.pair_line.proofs.judge.judge.Goals as goal

pub returns-in_err-p : goal.returns-in_err-p
returns-in_err-p c = rw (passed_on c.from_residual.result c.from_residual.ensures.1) (noise-number _ _ _ c.in_err-p.ensures)

pub returns-in_err-q : goal.returns-in_err-q
returns-in_err-q c =
    rw (passed_on c.from_residual-in_err-q.result c.from_residual-in_err-q.ensures.1) (scalar-number _ _ c.in_ok-p.ensures _ c.in_err-q.ensures)

pub compare-requires : goal.compare-requires
compare-requires c = (noise.ready _ c.in_ok-p.ensures, scalar.ready _ c.in_ok-q.ensures)
