-- `pair_line::line` meets its contract.
use Rattle.page.proofs.Returned.{line-returned}
use Rattle.pair_line.proofs.line.Goals as goal

pub returns : goal.returns
returns c = search line-returned
