-- `circuit_describe::level_of` meets its contract: each arm gives what the definition says of its gate. Assumes nothing.
use mathlib.Core.Path.{◌∙◌, ap}
use Prim.Native.Nat.{ℕ, ◌+◌}
use Rattle.circuit.specs.Levels.{gate_level}
use Rattle.circuit_describe.proofs.Levels.{max_is}
use Rattle.circuit_describe.proofs.level_of.Goals as goal

pub returns-in-Xor : goal.returns-in-Xor
unfolding gate_level
returns-in-Xor c = rw c.in-Xor.is (c.max.ensures ∙ max_is _ _)

pub returns-in-And : goal.returns-in-And
unfolding gate_level
returns-in-And c = rw c.in-And.is (ap (λ (n : ℕ). 1 + n) (c.max-in-And.ensures ∙ max_is _ _))

pub returns-in-Not : goal.returns-in-Not
unfolding gate_level
returns-in-Not c = rw c.in-Not.is
