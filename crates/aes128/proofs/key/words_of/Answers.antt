-- One more round key stands with each turn, and after the last two words all eleven.
use Rattle.std.proofs.Common.{rules}
use Rattle.aes128.proofs.Held.{held_next, held_all}
use Rattle.aes128.proofs.key.words_of.Goals as goal

pub loop-i-preserved : goal.loop-i-preserved
loop-i-preserved c = search held_next

pub returns : goal.returns
returns c = search (rules, held_all)
