-- Word by word.
use Rattle.aes128.specs.Inner.Steps.{next_key}
use Rattle.aes128.proofs.key.next_key.Goals as goal

pub returns : goal.returns
unfolding next_key
returns c = cc
