-- What the result of reading a circuit stands for (document 02, 9): its values where the circuit is accepted, else the number of its refusal.
use Rattle.std.specs.Prelude.{ℕ, ◌+◌, ◌≤◌, List, [], ◌≡◌, length, Result, Ok, Err}
use Rattle.answer.specs.Refused.{number_of}
use Rattle.answer.specs.declared.Refusal.{Refusal}
use Rattle.number.specs.Reading.{Reading, Whole, Refused}
use Rattle.circuit.specs.Admitted.{most_wires}
use Rattle.circuit.specs.Content.{Circuit, ands_in}
use Rattle.circuit.specs.Reading.{read_gates, read_wires, read_circuit}
use Rattle.circuit.specs.declared.Layout.{Layout}

-- the circuit, where one was read
abbrev pub circuit_of : Reading Circuit → Circuit
circuit_of (Whole c) = c
circuit_of (Refused k) = record { inputs = 0; gates = []; outputs = [] }

abbrev pub content : List ℕ → Circuit
content s = circuit_of (read_circuit s)

-- the numbers of a circuit that was read: inputs, gates, outputs and ANDs, and the places of its first gate and first output wire
pub record HasLayout (s : List ℕ) (f : Layout) : Type 0 where
  pub whole : read_circuit s ≡ Whole (content s)
  pub inputs : f.inputs ≡ (content s).inputs
  pub gates : f.gates ≡ length (content s).gates
  pub outputs : f.outputs ≡ length (content s).outputs
  pub ands : f.ands ≡ ands_in (content s).gates
  pub body : read_gates f.gates f.inputs s f.body ≡ Whole ((content s).gates, f.tail)
  pub tail : (end : ℕ) × (read_wires f.outputs (f.inputs + f.gates) s f.tail ≡ Whole ((content s).outputs, end))
  pub some : 1 ≤ f.inputs
  pub most : f.inputs + f.gates ≤ most_wires

-- `Ok` stands for a circuit that was read, and its numbers; `Err` for a refusal with its number, without values
abbrev pub CircuitRead : List ℕ → Result Layout Refusal → Type 0
CircuitRead s (Ok f) = HasLayout s f
CircuitRead s (Err refusal) = read_circuit s ≡ Refused (number_of refusal)
