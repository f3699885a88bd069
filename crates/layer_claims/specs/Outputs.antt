-- Layers as a source of outputs: w = Δu + v at each, so pads, messages, triples and circuits stand on them as on one dealing. A list of one
-- layer is the dealing itself.
use Rattle.std.specs.Prelude.{◌≡◌, ℕ}
use Rattle.dealing.specs.Vectors as dealt
use Rattle.claims.specs.Correlation.{PadsOf}
use Rattle.claims.specs.Formed.{Form}
use Rattle.claims.specs.Messages.{MessagesOf}
use Rattle.claims.specs.Source.{Source, Correlates}
use Rattle.claims.specs.Taken.{Dealing, outputs_of}
use Rattle.layer_claims.specs.Layers as layers
use Rattle.layer_claims.specs.Layers.{Layers, shared}

-- the outputs of layers
abbrev pub added_by : Layers → Source
added_by L =
    record {
      field = (shared L).field;
      outputs = (shared L).outputs;
      delta = (shared L).delta;
      u = layers.u L;
      v = layers.v L;
      w = layers.w L;
    }

-- w = Δu + v at each
abbrev pub LayerOutputs : Type 0
LayerOutputs = (L : Layers) → Correlates (added_by L)

-- pads and messages on layers of field 1
pub record OnLayers (L : Layers) : Type 0 where
  pub pads : PadsOf (added_by L)
  pub messages : MessagesOf (added_by L)

abbrev pub LayersServe : Type 0
LayersServe = (L : Layers) → (shared L).field ≡ 1 → OnLayers L

-- triples on layers of field 1, and so circuits in steps and in rounds, which take gathered triples (`Circuits` and `RoundCircuits` of
-- `claims`): layers with layers, and with a dealing at either side
pub record LayersForm : Type 0 where
  pub both : (L L' : Layers) → (shared L).field ≡ 1 → (shared L').field ≡ 1 → Form (added_by L) (added_by L')
  pub first : (L : Layers) (D : Dealing) → (shared L).field ≡ 1 → Form (added_by L) (outputs_of D)
  pub second : (D : Dealing) (L : Layers) → (shared L).field ≡ 1 → Form (outputs_of D) (added_by L)

-- one layer: its own u, v and w
pub record Alone (L : Layers) : Type 0 where
  pub u : (x : ℕ) → layers.u L x ≡ dealt.u (shared L) x
  pub v : (x : ℕ) → layers.v L x ≡ dealt.v (shared L) x
  pub w : (x : ℕ) → layers.w L x ≡ dealt.w (shared L) x

abbrev pub OneLayer : Type 0
OneLayer = (L : Layers) → L.count ≡ 1 → Alone L
