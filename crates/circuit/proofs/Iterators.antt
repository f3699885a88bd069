-- An iterator over the gates of a circuit, or over its output wires, by how many it has passed. Assumes nothing.
use Prim.Native.Nat.{ℕ, ◌+◌, ◌≤◌, ◌<◌}
use mathlib.Core.List.{List}
use mathlib.Core.Path.{◌≡◌, ap₂, ◌∙◌}
use native.Mathlib.Omega.{arith}
use Rattle.number.specs.Reading.{Whole}
use Rattle.circuit.specs.Inner.GateNumbers.{gate_of, WiresOf}
use Rattle.circuit.specs.Inner.Passing.{GatesFrom, Gave, GaveOutput}
use Rattle.circuit.specs.Reading.{read_wire, read_gate}
use Rattle.circuit.specs.declared.Gate as code
use Rattle.circuit.specs.declared.Gate.TheVariants as variant
use Rattle.circuit.specs.declared.Layout.{Layout}
use Rattle.circuit.specs.declared.accepted.Gates.{Gates}
use Rattle.circuit.specs.declared.accepted.OutputWires.{OutputWires}

-- ---- gates

-- it stands at gate i
pub record AtGate (s : List ℕ) (f : Layout) (gates : Gates) (i : ℕ) : Type 0 where
  pub source : gates.source.now ≡ s
  pub wire : gates.wire ≡ f.inputs + i
  pub left : i + gates.left ≡ f.gates

pub first_gate : {s : List ℕ} {f : Layout} {gates : Gates} → GatesFrom s f gates → AtGate s f gates 0
first_gate h = record { source = h.source; wire = omega (arith, h.wire); left = omega (arith, h.left) }

module _ {s : List ℕ} {f : Layout} {gates : Gates} {i : ℕ} (here : AtGate s f gates i) where
  pub no_gate_left : gates.left ≡ 0 → f.gates ≤ i
  no_gate_left none = omega (arith, here.left)

  module _ {wire : ℕ} {gate : code.Gate} {after : Gates} (gave : Gave gates wire gate after) where
    pub next_gate : AtGate s f after (i + 1)
    next_gate =
        record {
          source = gave.source ∙ here.source;
          wire = omega (arith, gave.next, here.wire);
          left = omega (arith, gave.left, here.left);
        }

    pub gate-left : i < f.gates
    gate-left = omega (arith, gave.left, here.left)

    pub gate-wire : wire ≡ f.inputs + i
    gate-wire = gave.wire_is ∙ here.wire

    pub gate-read : Whole (gate_of gate, after.at) ≡ read_gate (f.inputs + i) s gates.at
    gate-read = gave.read ∙ ap₂ (λ (w : ℕ) (l : List ℕ). read_gate w l gates.at) here.wire here.source

-- ---- output wires

-- it stands at output i
pub record AtOutput (s : List ℕ) (f : Layout) (wires : OutputWires) (i : ℕ) : Type 0 where
  pub source : wires.source.now ≡ s
  pub limit : wires.limit ≡ f.inputs + f.gates
  pub left : i + wires.left ≡ f.outputs

module _ {s : List ℕ} {f : Layout} {wires : OutputWires} {i : ℕ} (here : AtOutput s f wires i) where
  module _ {wire : ℕ} {after : OutputWires} (gave : GaveOutput wires wire after) where
    pub next_output : AtOutput s f after (i + 1)
    next_output =
        record {
          source = gave.source ∙ here.source;
          limit = gave.limit ∙ here.limit;
          left = omega (arith, gave.left, here.left);
        }

    pub output-left : i < f.outputs
    output-left = omega (arith, gave.left, here.left)

    pub output-read : Whole (wire, after.at) ≡ read_wire (f.inputs + f.gates) s wires.at
    output-read = gave.read ∙ ap₂ (λ (n : ℕ) (l : List ℕ). read_wire n l wires.at) here.limit here.source

-- ---- the wires of a gate

-- what follows of each wire follows of all
pub wires_all : {P Q : ℕ → Type 0} → ((w : ℕ) → P w → Q w) → (gate : code.Gate) → WiresOf P gate → WiresOf Q gate
wires_all follows (variant.Xor a b) h = (follows a h.0, follows b h.1)
wires_all follows (variant.And a b) h = (follows a h.0, follows b h.1)
wires_all follows (variant.Not a) h = follows a h
