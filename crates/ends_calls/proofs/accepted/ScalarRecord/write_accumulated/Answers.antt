-- `ends_calls::scalar_trees::write_accumulated` meets its contract. Assumes nothing.
use Rattle.std.proofs.Common.{rules, ◌^◌}
use Rattle.field.proofs.Accumulated.{accumulated}
use Rattle.ends_calls.proofs.accepted.ScalarRecord.write_accumulated.Goals as goal

pub returns : goal.returns
returns c = accumulated _ _ _ c.write_trees.ensures (c.accumulate_elements.ensures (2 ^ c.args.self.now.layout.depth) (search rules))
