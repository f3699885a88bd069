-- `number::read_byte` meets its contract. Assumes nothing.
use Rattle.std.proofs.Common.{lt-ltb, le-ltb}
use Rattle.number.specs.Reading.{read_byte}
use Rattle.number.proofs.read_byte.Goals as goal

pub returns-then-source-at-clause-value : goal.returns-then-source-at-clause-value
unfolding read_byte
returns-then-source-at-clause-value c = simp (le-ltb _ _ c.if-source-at.true)

pub returns-clause-value : goal.returns-clause-value
unfolding read_byte
returns-clause-value c = simp (lt-ltb _ _ c.if-source-at.false)
