-- Labels (document 02, 14), read as LE numbers of 16 bytes.
use Rattle.std.specs.Prelude.{ℕ, replicate}
use Rattle.field.specs.Bytes.{le_number}
use Rattle.stock.specs.declared.Label.{Label}

-- a label's number
unfoldable pub number_of : Label → ℕ
number_of l = le_number l.bytes

-- label 0
abbrev pub label_zero : Label
label_zero = record { bytes = replicate 16 0 }
