-- Inner: no promise cites this file. The levels of the wires up to a gate.
use Rattle.std.specs.Prelude.{ℕ, List, take, replicate}
use Rattle.circuit.specs.Content.{Circuit}
use Rattle.circuit.specs.Levels.{gate_level}
use Rattle.circuit.specs.Value.{over_gates}

-- the levels of the inputs and of the first gates
unfoldable pub levels_to : Circuit → ℕ → List ℕ
levels_to c i = over_gates gate_level (take i c.gates) (replicate c.inputs 0)
