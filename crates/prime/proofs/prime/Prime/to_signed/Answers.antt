-- The reduced word is below p, so it fits, and so does the word less p.
use Rattle.prime.proofs.SignedNeeds.{word_fits, read_low, read-high}
use Rattle.prime.proofs.prime.Prime.to_signed.Goals as goal

pub overflow_cast-number : goal.overflow_cast-number
overflow_cast-number c = search word_fits

pub returns-then-number-le-GREATEST : goal.returns-then-number-le-GREATEST
returns-then-number-le-GREATEST c = search read_low

pub returns-else-number-le-GREATEST : goal.returns-else-number-le-GREATEST
returns-else-number-le-GREATEST c = search read-high
