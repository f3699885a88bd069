-- `ends_calls::scalar_trees::write_delta` meets its contract. Assumes nothing.
use Rattle.ends_calls.proofs.Delta.{delta-written}
use Rattle.ends_calls.proofs.accepted.ScalarRecord.write_delta.Goals as goal

pub returns : goal.returns
returns c = search delta-written
