-- Which circuits are admitted (document 02, 9): 1 or more inputs, inputs and gates at most 4,096 together, 1 to 4,096 outputs, and a
-- gate's wires come before it.
use Rattle.std.specs.Prelude.{ℕ, ◌+◌, ◌≤◌, ◌<◌, Bool, ◌&&◌, List, [], ◌∷◌, leb, length}
use Rattle.circuit.specs.Content.{Gate, Xor, And, Not, Circuit}

-- the most wires, and the most outputs
abbrev pub most_wires : ℕ
most_wires = 4096

-- a number from the least to the most
abbrev pub is_within : ℕ → ℕ → ℕ → Bool
is_within least most n = leb least n && leb n most

-- a gate's wires come before it: they are below its own wire
unfoldable pub GateBelow : ℕ → Gate → Type 0
GateBelow wire (Xor a b) = (a < wire) × (b < wire)
GateBelow wire (And a b) = (a < wire) × (b < wire)
GateBelow wire (Not a) = a < wire

-- gates in order, the first at a wire and each later one at the next
unfoldable pub GatesBelow : ℕ → List Gate → Type 0
GatesBelow wire [] = Unit {0}
GatesBelow wire (g ∷ gs) = GateBelow wire g × GatesBelow (wire + 1) gs

-- each wire is below a limit
unfoldable pub WiresBelow : ℕ → List ℕ → Type 0
WiresBelow limit [] = Unit {0}
WiresBelow limit (w ∷ ws) = (w < limit) × WiresBelow limit ws

-- an admitted circuit
pub record AdmittedCircuit (c : Circuit) : Type 0 where
  pub inputs : 1 ≤ c.inputs
  pub wires : c.inputs + length c.gates ≤ most_wires
  pub outputs : (1 ≤ length c.outputs) × (length c.outputs ≤ most_wires)
  pub gates : GatesBelow c.inputs c.gates
  pub output_wires : WiresBelow (c.inputs + length c.gates) c.outputs
