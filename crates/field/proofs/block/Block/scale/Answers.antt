-- `field::block::Block::scale` meets its contract: by cases of the noise value.
use Rattle.field.proofs.Scale.{scale_one, scale-other}
use Rattle.field.proofs.block.Block.scale.Goals as goal

pub returns-then-bit-eq1 : goal.returns-then-bit-eq1
returns-then-bit-eq1 c = search scale_one

pub returns-else-bit-eq1 : goal.returns-else-bit-eq1
returns-else-bit-eq1 c = search scale-other
