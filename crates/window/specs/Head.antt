-- The field, N, and the rows of the code, from a record's head (document 01, 'Sizes', 'Offline and online'; document 02, 7).
use Rattle.std.specs.Prelude.{ℕ, ◌^◌}
use Rattle.algebra.specs.Field.{Field}
use Rattle.algebra.specs.Group.{itself}
use Rattle.algebra.specs.Row.{Row}
use Rattle.field.specs.Kind.{Kind, kind_of}
use Rattle.tree.specs.Columns.{columns_at}
use Rattle.code.specs.Row.{row_of}
use Rattle.record.specs.Content.{Head}

-- the field of a record
abbrev pub kind : Head → Kind
kind h = kind_of h.field

abbrev pub field_of : Head → Field
field_of h = (kind h).field

-- the same field with its noise values in the place of elements, so that what is said of v and w is said of u too
abbrev pub of_noise : Field → Field
of_noise F = record { ring = F.ring; scaled = itself F.ring; noise_values = F.noise_values; elements = F.noise_values }

-- N
abbrev pub places : Head → ℕ
places h = 2 ^ h.depth

-- row x of the code, under the code key
abbrev pub row : (h : Head) → ℕ → Row (field_of h).ring
row h x = row_of (field_of h).ring (kind h).coefficient (columns_at h.code_key 0) (places h) h.terms x
