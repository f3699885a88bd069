-- A vector of N values in the words that stand for it, and a window of its rows' outputs: of noise values and of elements alike.
use mathlib.Core.Path.{◌≡◌, ap, ◌∙◌}
use mathlib.Core.Bool.{true}
use mathlib.Core.List.{List}
use Prim.Native.Nat.{ℕ, ◌+◌, ◌*◌, ◌≤◌, ◌<◌}
use native.Mathlib.Nat.{mul-one}
use lib.ListN.{length, take, drop}
use Rattle.algebra.specs.Coding.{Coding, CodingLaws, at, flat, over}
use Rattle.algebra.specs.Field.{FieldLaws, NoiseValue}
use Rattle.algebra.specs.Group.{Scaled, Element}
use Rattle.algebra.specs.Row.{output}
use Rattle.algebra.specs.Sum.{accumulate}
use Rattle.algebra.proofs.Coding.{length-flat, at_flat, at_over, take-over, drop-over}
use Rattle.algebra.proofs.Sum.{itself_laws}
use Rattle.field.specs.Kind.{kind_of}
use Rattle.field.proofs.BothKinds.{kind_laws}
use Rattle.record.specs.Content.{Head}
use Rattle.window.specs.Head.{field_of, of_noise, places, row}
use Rattle.window.proofs.Rows.{row_output}

-- noise values as elements
pub noise-laws : (field : ℕ) → FieldLaws (of_noise (kind_of field).field)
noise-laws field =
    let L = (kind_laws field).field in
    record { ring = L.ring; scaled = itself_laws (kind_of field).field.ring L.ring; noise_values = L.noise_values; elements = L.noise_values }

-- a noise value takes one word
pub one_word : (h : Head) (n : ℕ) → n * (field_of h).noise_values.width ≡ n
one_word h n = ap (λ w. n * w) (kind_laws h.field).noise-width ∙ mul-one n

-- past noise values that were written a buffer is as it was
pub noise_past : (h : Head) (n : ℕ) (f : ℕ → NoiseValue (field_of h)) (b : List ℕ) → drop n (over (field_of h).noise_values n f b) ≡ drop n b
noise_past h n f b = rw (one_word h n) at (drop-over (field_of h).noise_values (kind_laws h.field).field.noise_values n f b)

module _ (h : Head) (S : Scaled (field_of h).ring) (C : Coding S.group.Of) (L : CodingLaws C) (f : ℕ → S.group.Of) where
  -- accumulated, at the front of a buffer
  pub front-taken : (buffer : List ℕ) {n : ℕ} → n ≡ places h * C.width
      → take n (over C (places h) (accumulate S.group f) buffer) ≡ flat C (places h) (accumulate S.group f)
  front-taken buffer e =
      ap (λ n. take n (over C (places h) (accumulate S.group f) buffer)) e ∙ take-over C L (places h) (accumulate S.group f) buffer

  module _ {words : List ℕ} (whole : words ≡ flat C (places h) f) where
    pub vector_length : length words ≡ places h * C.width
    vector_length = ap length whole ∙ length-flat C L (places h) f

    pub vector_at : (j : ℕ) → j < places h → at C words j ≡ f j
    vector_at j b = rw whole (at_flat C L (places h) f j b)

    pub vector_usable : ((j : ℕ) → j < places h → Element S.group (f j)) → (j : ℕ) → j < places h → S.group.is_element (at C words j) ≡ true
    vector_usable elements j b = ap S.group.is_element (vector_at j b) ∙ elements j b

    -- value k of a window that begins at an index
    pub window_at : h.terms ≤ places h → (first count : ℕ) (out : List ℕ) (k : ℕ) → k < count
        → at C (over C count (λ i. output S (row h (first + i)) (at C words)) out) k ≡ output S (row h (first + k)) f
    window_at full first count out k b =
        at_over C L count (λ i. output S (row h (first + i)) (at C words)) out k b ∙ row_output h full (first + k) S (at C words) f vector_at
