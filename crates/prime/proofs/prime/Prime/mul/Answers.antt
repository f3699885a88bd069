-- Factors may be folded, and the product is reduced modulo p.
use Rattle.prime.proofs.Modular.{multiplied}
use Rattle.prime.proofs.prime.Prime.mul.Goals as goal

pub returns : goal.returns
returns c = search multiplied
