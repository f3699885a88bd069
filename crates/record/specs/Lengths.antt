-- The lengths of key records from their sizes (document 01, 'Key records'; document 02, 8 and 10).
use Rattle.std.specs.Prelude.{ℕ, ◌+◌, ◌-◌, ◌*◌, List, [], ◌∷◌, ◌≡◌, length}
use Rattle.field.specs.Kind.{element_words}
use Rattle.number.specs.Number.{write_number, number_length}
use Rattle.number.specs.Reading.{Whole, Bytes}
use Rattle.record.specs.Admitted.{AdmittedHead, AdmittedNoise, AdmittedScalar}
use Rattle.record.specs.Content.{Head, NoiseTree, NoisePart, ScalarPart, sibling_count}
use Rattle.record.specs.Reading.{read_noise, read_scalar}
use Rattle.record.specs.Writing.{write_head, write_noise, write_scalar}

-- the head: the end byte and the field byte; a byte for each of d, g, t and ℓ, and 1 to 3 bytes for n; 16 bytes for the code key and 16
-- for the label
unfoldable pub head_bytes : Head → ℕ
head_bytes h = 2 + (1 + 1 + 1 + 1 + number_length h.outputs) + 32

-- a tree without its position: 16 bytes for the noise value and the correction (in field 1 none and 16, in field 2 8 and 8), then 16 for
-- each sibling
unfoldable pub tree_bytes : Head → ℕ
tree_bytes h = 16 + 16 * sibling_count h.depth h.branch_bits

-- the positions, 1 to 3 bytes each: the first as itself (`base` is 0), each later one as its difference from the one before, less 1
-- (`base` is the one before plus 1)
unfoldable pub position_bytes : ℕ → List NoiseTree → ℕ
position_bytes base [] = 0
position_bytes base (t ∷ ts) = number_length (t.position - base) + position_bytes (t.position + 1) ts

-- the noise record: the head, and t trees with their positions
unfoldable pub noise_bytes : NoisePart → ℕ
noise_bytes p = head_bytes p.head + (p.head.trees * tree_bytes p.head + position_bytes 0 p.trees)

-- the scalar record: the head, Δ of 16 bytes (field 1) or 8 (field 2), and t roots of 16 bytes
unfoldable pub scalar_bytes : Head → ℕ
scalar_bytes h = head_bytes h + (8 * element_words h.field + 16 * h.trees)

pub record RecordLengths : Type 0 where
  -- g is written as one byte, which is g itself
  pub branch : (h : Head) → AdmittedHead h → write_number h.branch_bits ≡ h.branch_bits ∷ []
  -- what is written of admitted content has the length that its sizes and positions give
  pub head : (end : ℕ) (h : Head) → AdmittedHead h → length (write_head end h) ≡ head_bytes h
  pub noise : (p : NoisePart) → AdmittedNoise p → length (write_noise p) ≡ noise_bytes p
  pub scalar : (p : ScalarPart) → AdmittedScalar p → length (write_scalar p) ≡ scalar_bytes p.head
  -- and so has every record that is accepted
  pub noise-read : (s : List ℕ) → Bytes s → (p : NoisePart) → read_noise s ≡ Whole p → length s ≡ noise_bytes p
  pub scalar_read : (s : List ℕ) → Bytes s → (p : ScalarPart) → read_scalar s ≡ Whole p → length s ≡ scalar_bytes p.head
