-- The writing of key records (document 01, 'Key records').
use Rattle.std.specs.Prelude.{ℕ, ◌+◌, ◌-◌, List, [], ◌∷◌, ◌++◌}
use Rattle.field.specs.Bytes.{le_bytes}
use Rattle.field.specs.ByNumber.{one_noise}
use Rattle.number.specs.Number.{write_number}
use Rattle.number.specs.Reading.{choose}
use Rattle.record.specs.Content.{Head, NoiseTree, NoisePart, ScalarPart}

-- one after the other
unfoldable pub write_each : {A : Type 0} → (A → List ℕ) → List A → List ℕ
write_each write [] = []
write_each write (x ∷ xs) = write x ++ write_each write xs

-- elements: each word as 8 bytes LE
abbrev pub write_words : List ℕ → List ℕ
write_words words = write_each (le_bytes 8) words

-- blocks, 16 bytes each
abbrev pub write_blocks : List (List ℕ) → List ℕ
write_blocks blocks = write_each (λ b. b) blocks

-- head: end byte (1 noise, 2 scalar), field byte, d, g (document 02, 10), t, ℓ, n as numbers, code key, label
-- (document 02, 8)
unfoldable pub write_head : ℕ → Head → List ℕ
write_head end h =
    end ∷ h.field
    ∷ (write_number h.depth ++ (write_number h.branch_bits ++ (write_number h.trees ++ (write_number h.terms
    ++ (write_number h.outputs ++ (h.code_key ++ h.label))))))

-- the noise value: field 2 only, 8 LE bytes
abbrev pub write_value : ℕ → ℕ → List ℕ
write_value field value = choose (one_noise field) [] (le_bytes 8 value)

-- a tree up to its siblings: the position less `base`, the noise value, the correction. `base` is 0 for the first tree, and
-- for each later one the position before plus 1, so that its difference from the one before, less 1, is written
unfoldable pub write_tree_start : ℕ → ℕ → ℕ → ℕ → List ℕ → List ℕ
write_tree_start field base position value correction = write_number (position - base) ++ (write_value field value ++ write_words correction)

-- a tree: position, noise value, correction, siblings
unfoldable pub write_tree : ℕ → ℕ → NoiseTree → List ℕ
write_tree field base t = write_tree_start field base t.position t.value t.correction ++ write_blocks t.siblings

-- trees, one after the other
unfoldable pub write_trees : ℕ → ℕ → List NoiseTree → List ℕ
write_trees field base [] = []
write_trees field base (t ∷ ts) = write_tree field base t ++ write_trees field (t.position + 1) ts

-- the noise record
unfoldable pub write_noise : NoisePart → List ℕ
write_noise p = write_head 1 p.head ++ write_trees p.head.field 0 p.trees

-- the scalar record: Δ, then t roots
unfoldable pub write_scalar : ScalarPart → List ℕ
write_scalar p = write_head 2 p.head ++ (write_words p.delta ++ write_blocks p.roots)
