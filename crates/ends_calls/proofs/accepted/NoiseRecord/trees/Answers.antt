-- `ends_calls::trees::trees` meets its contract: all trees of an accepted record are left. Assumes nothing.
use Rattle.ends.proofs.noise.Content.{ready}
use Rattle.ends_calls.proofs.Rest.{left_all}
use Rattle.ends_calls.proofs.accepted.NoiseRecord.trees.Goals as goal

pub invariant_of-result : goal.invariant_of-result
invariant_of-result c = record { rest = left_all _ _ (ready _ c.args.self.now.accepted) c.sibling_count.ensures }
