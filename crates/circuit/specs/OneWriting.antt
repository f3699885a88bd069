-- Circuits read back, and each has one writing (document 02, 9, on the bytes of a circuit).
use Rattle.std.specs.Prelude.{List, ◌≡◌, ℕ}
use Rattle.number.specs.Reading.{Whole, Bytes}
use Rattle.circuit.specs.Admitted.{AdmittedCircuit}
use Rattle.circuit.specs.Content.{Circuit}
use Rattle.circuit.specs.Reading.{read_circuit}
use Rattle.circuit.specs.Writing.{write_circuit}

pub record OneWriting : Type 0 where
  -- the writing of an admitted circuit reads as that circuit
  pub back : (c : Circuit) → AdmittedCircuit c → read_circuit (write_circuit c) ≡ Whole c
  -- what reads as a circuit is admitted, and is exactly its writing
  pub exact : (s : List ℕ) → Bytes s → (c : Circuit) → read_circuit s ≡ Whole c → AdmittedCircuit c × (s ≡ write_circuit c)
  -- so two readings of one circuit are the same bytes
  pub one : (s u : List ℕ) → Bytes s → Bytes u → (c : Circuit) → read_circuit s ≡ Whole c → read_circuit u ≡ Whole c → s ≡ u
