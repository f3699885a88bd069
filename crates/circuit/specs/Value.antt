-- The value of a circuit on a list of bits, gate by gate (document 02, 9). It knows nothing of shares, steps or triples.
use Rattle.std.specs.Prelude.{ℕ, List, [], ◌∷◌, ◌++◌, map, get_or}
use Rattle.std.specs.Int.Bits.{bit_xor, bit_and}
use Rattle.circuit.specs.Content.{Gate, Xor, And, Not, Circuit}

-- the value of a gate, from the values of the wires before it
unfoldable pub gate_value : Gate → List ℕ → ℕ
gate_value (Xor a b) wires = bit_xor (get_or wires a 0) (get_or wires b 0)
gate_value (And a b) wires = bit_and (get_or wires a 0) (get_or wires b 0)
gate_value (Not a) wires = bit_xor (get_or wires a 0) 1

-- all wires: those given, then for each gate in order what is made of it and of the wires before it
unfoldable pub over_gates : (Gate → List ℕ → ℕ) → List Gate → List ℕ → List ℕ
over_gates make [] wires = wires
over_gates make (g ∷ gs) wires = over_gates make gs (wires ++ (make g wires ∷ []))

-- the values of all wires: the gates in order, each after the wires before it
abbrev pub wire_values : List Gate → List ℕ → List ℕ
wire_values gates wires = over_gates gate_value gates wires

-- what stands at wires
abbrev pub at_wires : List ℕ → List ℕ → List ℕ
at_wires values wires = map (λ (w : ℕ). get_or values w 0) wires

-- the circuit on its inputs: the values of its output wires
unfoldable pub value_of : Circuit → List ℕ → List ℕ
value_of c bits = at_wires (wire_values c.gates bits) c.outputs
