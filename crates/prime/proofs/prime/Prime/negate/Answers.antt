-- The negation is zero less the element.
use Rattle.prime.specs.Signed.{prime_negate}
use Rattle.prime.proofs.prime.Prime.negate.Goals as goal

pub returns : goal.returns
unfolding prime_negate
returns c = c.sub.ensures
