-- Inner: no promise cites this file. The rows that a window asks of a record, by its numbers, and their outputs on the words of
-- a vector, from the round keys.
use Rattle.std.specs.Prelude.{List, ℕ, ◌+◌, ◌^◌}
use Rattle.algebra.specs.Coding.{at, over}
use Rattle.algebra.specs.Field.{Field, NoiseValue, Value}
use Rattle.algebra.specs.Row.{output}
use Rattle.code.specs.declared.Shape.{Shape}
use Rattle.code.specs.declared.Window.{Window}
use Rattle.code.specs.Row.{strip, row_of_blocks}
use Rattle.code.specs.Inner.Rows.{term_block_by}
use Rattle.aes128.specs.Cipher.{key_expansion}
use Rattle.record.specs.Content.{Head}
use Rattle.record.specs.declared.Layout.{Layout}
use Rattle.tree.specs.Columns.{columns_at}
use Rattle.window.specs.declared.WindowRows.{WindowRows}

-- the round keys of a head's code key
abbrev pub code_keys : Head → List (List (List ℕ))
code_keys h = key_expansion (columns_at h.code_key 0)

-- the code's shape
abbrev pub shape_of : Layout → Shape
shape_of f = record { places = 2 ^ f.depth; terms = f.terms; strip = strip (2 ^ f.depth) f.terms }

-- the rows of a window
abbrev pub rows_of : Layout → Window → WindowRows
rows_of f w = record { field = f.field; window = w }

-- output k of the window, for a rule of coefficients
abbrev pub output_at : (F : Field) → (ℕ → NoiseValue F) → List (List (List ℕ)) → Shape → WindowRows → List ℕ → ℕ → Value F
output_at F coefficient keys s r w k =
    output F.scaled (row_of_blocks F.ring coefficient s.places s.terms (term_block_by keys (r.window.first + k))) (at F.elements w)

-- the window over the front of a buffer
abbrev pub window_over : (F : Field) → (ℕ → NoiseValue F) → List (List (List ℕ)) → Shape → WindowRows → List ℕ → List ℕ → List ℕ
window_over F coefficient keys s r w buffer = over F.elements r.window.count (output_at F coefficient keys s r w) buffer
