-- The sum of the folded words is that of the words modulo p.
use Rattle.prime.proofs.Modular.{added}
use Rattle.prime.proofs.prime.Prime.add.Goals as goal

pub returns : goal.returns
returns c = search added
