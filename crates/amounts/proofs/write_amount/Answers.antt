-- Both cases of the way back.
use Rattle.amounts.proofs.Returns.{as_written}
use Rattle.amounts.proofs.write_amount.Goals as goal

pub returns-in-Some : goal.returns-in-Some
returns-in-Some c = as_written c.ranges.amount _ c.in-Some.ensures

pub returns-in-None : goal.returns-in-None
returns-in-None c = rw c.number.ensures (as_written c.ranges.amount _ c.in-None.ensures)
