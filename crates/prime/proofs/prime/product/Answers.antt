-- Each partial product is bounded by those of the largest halves, and the sum is a × b modulo p and below 2^63.
use Rattle.std.proofs.Common.{arith}
use Rattle.prime.proofs.Modular.{within, product_mod}
use Rattle.prime.proofs.prime.product.Goals as goal

pub returns : goal.returns
returns c = (product_mod c.args.a c.args.b, omega (arith, within _ _ c.requires.0 c.requires.1))
