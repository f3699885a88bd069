-- A sum of p or more has bit 61 once 1 is added.
use Rattle.layer_add.proofs.Turns.{prime-word}
use Rattle.layer_add.proofs.words.prime_sum.Goals as goal

pub returns : goal.returns
returns c = search prime-word
