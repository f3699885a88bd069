-- The writing of a circuit (document 02, 9): the number of inputs, of gates and of outputs, then the gates, each a kind and its one
-- or two wires, then the output wires; all numbers as in the records.
use Rattle.std.specs.Prelude.{ℕ, List, [], ◌∷◌, ◌++◌, length}
use Rattle.number.specs.Number.{write_number}
use Rattle.circuit.specs.Content.{Gate, Xor, And, Not, Circuit}

-- a gate: its kind and its one or two wires
unfoldable pub write_gate : Gate → List ℕ
write_gate (Xor a b) = write_number 1 ++ (write_number a ++ write_number b)
write_gate (And a b) = write_number 2 ++ (write_number a ++ write_number b)
write_gate (Not a) = write_number 3 ++ write_number a

-- gates, one after the other
unfoldable pub write_gates : List Gate → List ℕ
write_gates [] = []
write_gates (g ∷ gs) = write_gate g ++ write_gates gs

-- wires, one after the other
unfoldable pub write_wires : List ℕ → List ℕ
write_wires [] = []
write_wires (w ∷ ws) = write_number w ++ write_wires ws

-- the circuit
unfoldable pub write_circuit : Circuit → List ℕ
write_circuit c =
    write_number c.inputs
    ++ (write_number (length c.gates) ++ (write_number (length c.outputs) ++ (write_gates c.gates ++ write_wires c.outputs)))
