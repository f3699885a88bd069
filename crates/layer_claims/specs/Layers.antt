-- Layers of one source: accepted dealings of one field, d, ℓ, n, Δ and code key, and the u, v and w of their sum.
use Rattle.std.specs.Prelude.{◌≡◌, ℕ, ◌≤◌, ◌<◌}
use Rattle.algebra.specs.Field.{Field, NoiseValue, Value}
use Rattle.algebra.specs.Group.{itself}
use Rattle.algebra.specs.Row.{entry, row_times}
use Rattle.algebra.specs.Sum.{sum}
use Rattle.window.specs.Head.{places, row}
use Rattle.dealing.specs.Input.{Input}
use Rattle.dealing.specs.Vectors as dealt
use Rattle.dealing.specs.Vectors.{head}
use Rattle.claims.specs.Correlation.{Setting}

-- two dealings have the same field, d, ℓ, n, Δ and code key
pub record Alike (I J : Input) : Type 0 where
  pub field : J.field ≡ I.field
  pub depth : J.depth ≡ I.depth
  pub terms : J.terms ≡ I.terms
  pub outputs : J.outputs ≡ I.outputs
  pub delta : J.delta ≡ I.delta
  pub code_key : J.code_key ≡ I.code_key

-- one or more settings, each an accepted dealing with both offline calls, numbered from 0 to count − 1; g, t, label, roots, positions and
-- values are their own
pub record Layers : Type 0 where
  pub count : ℕ
  pub some : 1 ≤ count
  pub layer : ℕ → Setting
  pub alike : (i : ℕ) → i < count → Alike (layer 0).input (layer i).input

-- what they share: the input of the first has it
abbrev pub shared : Layers → Input
shared L = (L.layer 0).input

abbrev pub field : Layers → Field
field L = dealt.field (shared L)

-- a dealing with the field, d, ℓ, n, Δ and code key of another: itself, where they are alike. So the values of all layers are of one type
abbrev pub sharing : Input → Input → Input
sharing I J =
    record {
      field = I.field;
      depth = I.depth;
      branch_bits = J.branch_bits;
      trees = J.trees;
      terms = I.terms;
      outputs = I.outputs;
      roots = J.roots;
      positions = J.positions;
      values = J.values;
      delta = I.delta;
      code_key = I.code_key;
      label = J.label;
    }

-- the input of layer i
abbrev pub input_at : Layers → ℕ → Input
input_at L i = sharing (shared L) (L.layer i).input

-- Σμ
unfoldable pub mu : (L : Layers) → ℕ → NoiseValue (field L)
mu L j = sum (field L).ring.group L.count (λ i. dealt.mu (input_at L i) j)

-- u: the code matrix times Σμ
unfoldable pub u : (L : Layers) → ℕ → NoiseValue (field L)
u L x = row_times (itself (field L).ring) (places (head (shared L))) (entry (row (head (shared L)) x)) (mu L)

-- v and w: the sums of the layers' own
unfoldable pub v : (L : Layers) → ℕ → Value (field L)
v L x = sum (field L).scaled.group L.count (λ i. dealt.v (input_at L i) x)

unfoldable pub w : (L : Layers) → ℕ → Value (field L)
w L x = sum (field L).scaled.group L.count (λ i. dealt.w (input_at L i) x)
