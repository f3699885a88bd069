-- Inner: no promise cites this file. Heads and their numbers.
use Rattle.std.specs.Prelude.{ℕ, List}
use Rattle.record.specs.Content.{Head, ScalarPart}
use Rattle.record.specs.Reading.{items, block_at}
use Rattle.record.specs.declared.Layout.{Layout}

-- the head of field, d, g, t, ℓ, n, code key and label
abbrev pub head_with : ℕ → ℕ → ℕ → ℕ → ℕ → ℕ → List ℕ → List ℕ → Head
head_with field depth branch_bits trees terms outputs code_key label =
    record { field = field; depth = depth; branch_bits = branch_bits; trees = trees; terms = terms; outputs = outputs; code_key = code_key; label = label }

-- the head of these numbers, a code key and a label
abbrev pub head_from : Layout → List ℕ → List ℕ → Head
head_from f code_key label = head_with f.field f.depth f.branch_bits f.trees f.terms f.outputs code_key label

-- the scalar record of these, its roots one after the other
abbrev pub scalar_with : Layout → List ℕ → List ℕ → List ℕ → List ℕ → ScalarPart
scalar_with f code_key label delta roots = record { head = head_from f code_key label; delta = delta; roots = items block_at 16 roots 0 f.trees }
