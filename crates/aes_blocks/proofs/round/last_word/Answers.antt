-- The second column fits the word's upper half.
use Rattle.aes128.proofs.Last.{last_word}
use Rattle.aes_blocks.proofs.round.last_word.Goals as goal

pub returns : goal.returns
returns c = last_word _ c.requires.0 c.requires.1
