-- Total and factors may be folded.
use Rattle.prime.proofs.Modular.{product_added}
use Rattle.prime.proofs.prime.Prime.add_product.Goals as goal

pub returns : goal.returns
returns c = search product_added
