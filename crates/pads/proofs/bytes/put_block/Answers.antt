-- The words of both halves, one after the other, are the block's bytes.
use Rattle.std.proofs.Common.{◌∙◌}
use Rattle.pads.proofs.Blocks.{two-words}
use Rattle.pads.proofs.bytes.put_block.Goals as goal

pub returns : goal.returns
returns c = c.write.ensures ∙ two-words c.args.bytes.now c.args.at c.args.b
