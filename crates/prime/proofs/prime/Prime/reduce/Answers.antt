-- Folding keeps the class modulo p, and what it leaves is below 2 p.
use Rattle.std.proofs.Common.{arith}
use Rattle.prime.proofs.Modular.{reduced_below, reduced_above}
use Rattle.prime.proofs.prime.Prime.reduce.Goals as goal

pub returns-then-folded-lt-MODULUS : goal.returns-then-folded-lt-MODULUS
returns-then-folded-lt-MODULUS c = search reduced_below

pub returns-else-folded-lt-MODULUS : goal.returns-else-folded-lt-MODULUS
returns-else-folded-lt-MODULUS c = reduced_above _ _ c.fold-folded.ensures c.if-folded-lt-MODULUS.false (omega arith)
