-- `ends_calls::noise_trees::write_accumulated` meets its contract. Assumes nothing.
use Rattle.std.proofs.Common.{rules, ◌^◌}
use Rattle.field.proofs.Accumulated.{accumulated, noise-accumulated}
use Rattle.ends_calls.proofs.accepted.NoiseRecord.write_accumulated.Goals as goal

pub returns : goal.returns
returns c = (
  search noise-accumulated,
  accumulated _ _ _ c.write_trees.ensures.1 (c.accumulate_elements.ensures (2 ^ c.args.self.now.layout.depth) (search rules)),
)
