-- Inner: no promise cites this file. What the iterators of a circuit's gates and of its output wires give.
use Rattle.std.specs.Prelude.{ℕ, suc, ◌+◌, ◌<◌, List, ◌≡◌, Option, Some, None}
use Rattle.number.specs.Reading.{Whole}
use Rattle.circuit.specs.Inner.GateNumbers.{gate_of, WiresOf}
use Rattle.circuit.specs.Reading.{read_wire, read_gate}
use Rattle.circuit.specs.declared.Gate as code
use Rattle.circuit.specs.declared.Layout.{Layout}
use Rattle.circuit.specs.declared.accepted.Gates.{Gates}
use Rattle.circuit.specs.declared.accepted.OutputWires.{OutputWires}

-- ---- gates

-- from the first
pub record GatesFrom (s : List ℕ) (f : Layout) (gates : Gates) : Type 0 where
  pub source : gates.source.now ≡ s
  pub at : gates.at ≡ f.body
  pub wire : gates.wire ≡ f.inputs
  pub left : gates.left ≡ f.gates

-- a gate with its wire, and the gates after it
pub record Gave (before : Gates) (wire : ℕ) (gate : code.Gate) (after : Gates) : Type 0 where
  pub wire_is : wire ≡ before.wire
  pub read : Whole (gate_of gate, after.at) ≡ read_gate before.wire before.source.now before.at
  pub below : WiresOf (λ (w : ℕ). w < before.wire) gate
  pub source : after.source.now ≡ before.source.now
  pub next : after.wire ≡ before.wire + 1
  pub left : before.left ≡ suc after.left

-- one turn: a gate, or none where none is left
abbrev pub GivesGate : Gates → Option (ℕ × code.Gate) → Gates → Type 0
GivesGate before None after = (before.left ≡ 0) × (after.left ≡ 0)
GivesGate before (Some given) after = Gave before given.0 given.1 after

-- ---- output wires

-- from the first
pub record OutputsFrom (s : List ℕ) (f : Layout) (wires : OutputWires) : Type 0 where
  pub source : wires.source.now ≡ s
  pub at : wires.at ≡ f.tail
  pub limit : wires.limit ≡ f.inputs + f.gates
  pub left : wires.left ≡ f.outputs

-- a wire, and those after it
pub record GaveOutput (before : OutputWires) (wire : ℕ) (after : OutputWires) : Type 0 where
  pub read : Whole (wire, after.at) ≡ read_wire before.limit before.source.now before.at
  pub below : wire < before.limit
  pub source : after.source.now ≡ before.source.now
  pub limit : after.limit ≡ before.limit
  pub left : before.left ≡ suc after.left

-- one turn: a wire, or none where none is left
abbrev pub GivesOutput : OutputWires → Option ℕ → OutputWires → Type 0
GivesOutput before None after = (before.left ≡ 0) × (after.left ≡ 0)
GivesOutput before (Some wire) after = GaveOutput before wire after
