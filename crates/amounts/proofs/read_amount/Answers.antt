-- A word below p is its own class modulo p, and what it is read as fits.
use Rattle.amounts.proofs.Returns.{elements, no_elements}
use Rattle.amounts.proofs.read_amount.Goals as goal

pub returns-then-element-lt-MODULUS : goal.returns-then-element-lt-MODULUS
returns-then-element-lt-MODULUS c = search elements

pub returns-else-element-lt-MODULUS : goal.returns-else-element-lt-MODULUS
returns-else-element-lt-MODULUS c = rw c.number.ensures (no_elements c.args.element c.if-element-lt-MODULUS.false)
