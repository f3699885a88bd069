-- `stock_calls::shares::padded` meets its contract: the shares copied before zeros are eight entries.
use Rattle.stock_calls.proofs.Needs.{padded_is}
use Rattle.stock_calls.proofs.shares.padded.Goals as goal

pub returns : goal.returns
returns c = rw c.copy_from_slice.ensures.after (padded_is _ c.requires)
