-- A source of outputs: u, v and w at each index below n and Δ, in one of the two fields. What stands on outputs, pads and all that is
-- made of them, needs no more of where they come from than that w = Δu + v at each index. Every accepted dealing is such a source.
use Rattle.std.specs.Prelude.{List, ◌≡◌, ℕ, ◌<◌}
use Rattle.algebra.specs.Expansion.{Correlated}
use Rattle.algebra.specs.Field.{Field, NoiseValue, Value}
use Rattle.field.specs.Kind.{kind_of}
use Rattle.dealing.specs.Input.{Input, words_of}
use Rattle.dealing.specs.Vectors.{u, v, w}

-- the field, n, the sixteen bytes of Δ, and u, v and w by index
pub record Source : Type 0 where
  pub field : ℕ
  pub outputs : ℕ
  pub delta : List ℕ
  pub u : ℕ → NoiseValue (kind_of field).field
  pub v : ℕ → Value (kind_of field).field
  pub w : ℕ → Value (kind_of field).field

-- its field
abbrev pub source_field : Source → Field
source_field s = (kind_of s.field).field

-- Δ, the scalar
abbrev pub source_delta : (s : Source) → Value (source_field s)
source_delta s = (source_field s).elements.read (words_of s.field s.delta) 0

-- w = Δu + v at each of its outputs
abbrev pub Correlates : Source → Type 0
Correlates s = (x : ℕ) → x < s.outputs → Correlated (source_field s).scaled (source_delta s) (s.u x) (s.v x) (s.w x)

-- a source of field 1 of which that holds
pub record Binary : Type 0 where
  pub source : Source
  pub binary : source.field ≡ 1
  pub correlates : Correlates source

-- the outputs of a dealing
abbrev pub dealt_by : Input → Source
dealt_by I = record { field = I.field; outputs = I.outputs; delta = I.delta; u = u I; v = v I; w = w I }
