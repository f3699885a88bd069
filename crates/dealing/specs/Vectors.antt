-- μ, v0, w0 and the outputs u, v, w of a dealing, all from its input (document 01, 'Dealing', 'Offline and online', 'Lists of
-- calls at both ends'), with 2^g children a node (document 02, 10). Trees and outputs are numbered from 0.
use Rattle.std.specs.Prelude.{List, ℕ, ◌*◌, ◌/◌, ◌^◌}
use Rattle.algebra.specs.Expansion.{noise, correction, punctured, whole}
use Rattle.algebra.specs.Field.{Field, NoiseValue, Value}
use Rattle.algebra.specs.Group.{itself}
use Rattle.algebra.specs.Row.{output, entry, row_times}
use Rattle.algebra.specs.Sum.{accumulate}
use Rattle.tree.specs.Child.{child}
use Rattle.tree.specs.Columns.{columns_at}
use Rattle.tree.specs.Tree.{leaf_at}
use Rattle.record.specs.Content.{Head}
use Rattle.window.specs.Head.{kind, field_of, places, row}
use Rattle.dealing.specs.Input.{Input, position, delta_words}

-- the head of both records
abbrev pub head : Input → Head
head I =
    record {
      field = I.field;
      depth = I.depth;
      branch_bits = I.branch_bits;
      trees = I.trees;
      terms = I.terms;
      outputs = I.outputs;
      code_key = I.code_key;
      label = I.label;
    }

-- the field of the dealing
abbrev pub field : Input → Field
field I = field_of (head I)

-- tree i: its noise value, its root block and the element of its leaf j
abbrev pub value : (I : Input) → ℕ → NoiseValue (field I)
value I i = (field I).noise_values.read I.values i

abbrev pub root : Input → ℕ → List (List ℕ)
root I i = columns_at I.roots (16 * i)

abbrev pub leaf : (I : Input) → ℕ → ℕ → Value (field I)
leaf I i j = (kind (head I)).leaf (leaf_at (2 ^ I.branch_bits) child (I.depth / I.branch_bits) (root I i) j)

-- Δ, the scalar
abbrev pub delta : (I : Input) → Value (field I)
delta I = (field I).elements.read (delta_words I) 0

-- the correction of tree i: the leaf element at its position minus Δ × value
abbrev pub tree_correction : (I : Input) → ℕ → Value (field I)
tree_correction I i = correction (field I).scaled (delta I) (leaf I i (position I i)) (value I i)

-- μ, the dealt noise
unfoldable pub mu : (I : Input) → ℕ → NoiseValue (field I)
mu I = noise (field I).ring I.trees (position I) (value I)

-- v0: the leaves at each place, the correction standing in for the punctured leaf
unfoldable pub v0 : (I : Input) → ℕ → Value (field I)
v0 I = punctured (field I).scaled I.trees (position I) (tree_correction I) (leaf I)

-- w0: all leaves at each place
unfoldable pub w0 : (I : Input) → ℕ → Value (field I)
w0 I = whole (field I).scaled I.trees (leaf I)

-- u: the code matrix times the dealt noise
unfoldable pub u : (I : Input) → ℕ → NoiseValue (field I)
u I x = row_times (itself (field I).ring) (places (head I)) (entry (row (head I) x)) (mu I)

-- v and w: the outputs of the accumulated v0 and w0
unfoldable pub v : (I : Input) → ℕ → Value (field I)
v I x = output (field I).scaled (row (head I) x) (accumulate (field I).scaled.group (v0 I))

unfoldable pub w : (I : Input) → ℕ → Value (field I)
w I x = output (field I).scaled (row (head I) x) (accumulate (field I).scaled.group (w0 I))
