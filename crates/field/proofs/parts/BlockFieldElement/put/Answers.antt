-- Both words are stored.
use Rattle.field.proofs.Widths.{put-block_is}
use Rattle.field.proofs.parts.BlockFieldElement.put.Goals as goal

pub returns : goal.returns
returns c = put-block_is c.args.words.now c.args.i c.args.self c.requires
