-- Both pad calls (document 01, 'Pads' and 'Numbers of the calls'): from everything lent to everything that stands on return,
-- the input slices too. They test 3, 7, 6, 13, 8. The calls are defined over any rule; the calls' own is `pad`.
use Rattle.std.specs.Prelude.{◌≡◌, true, List, [], ◌∷◌, ◌↔◌, ℕ, ◌+◌, ◌*◌, length}
use Rattle.algebra.specs.Coding.{at, over}
use Rattle.answer.specs.Numbers.{bad_length, bad_delta, window_past_end, not_element, buffer_short}
use Rattle.answer.specs.Bytes.{any_above}
use Rattle.answer.specs.Tests.{Test, ◌is◌, ◌at_most◌, all_at_most, holds, ◌or◌, AllMet}
use Rattle.answer.specs.Outcome.{Outcome, answered, refused_none, wrote}
use Rattle.field.specs.Binary.{block_zero}
use Rattle.pads.specs.Bytes.{block_bytes, pad_pair_bytes}
use Rattle.pads.specs.Pad.{Rule, pad, pad_pair}

-- ---- the noise end

-- what is lent: v, the choices, and the output buffer
pub record NoiseLent : Type 0 where
  pub v : List ℕ
  pub choices : List ℕ
  pub pads : List ℕ

abbrev pub lent_noise : List ℕ → List ℕ → List ℕ → NoiseLent
lent_noise v choices pads = record { v = v; choices = choices; pads = pads }

-- its tests: v has 16 bytes an output and choices one byte, 0 or 1; the window ends by 32,768; room is asked for as many pads
abbrev pub noise_tests : ℕ → ℕ → List ℕ → List ℕ → ℕ → List Test
noise_tests first count v choices room =
    length v is 16 * count or bad_length
    ∷ length choices is count or bad_length
    ∷ (first + count) at_most 32768 or window_past_end
    ∷ 16 * count at_most room or buffer_short
    ∷ all_at_most 1 choices or not_element
    ∷ []

-- it writes the pad of v, 16 bytes an output
unfoldable pub noise_pads_by : Rule → ℕ → ℕ → List ℕ → List ℕ → List ℕ → Outcome (Unit {0}) NoiseLent
noise_pads_by rule first count v choices pads =
    answered (noise_tests first count v choices (length pads)) (refused_none (lent_noise v choices pads))
    (wrote tt (lent_noise v choices (over block_bytes count (λ k. rule (first + k) (at block_bytes v k)) pads)))

-- ---- the scalar end

-- what is lent: w, Δ, and the output buffer
pub record ScalarLent : Type 0 where
  pub w : List ℕ
  pub delta : List ℕ
  pub pads : List ℕ

abbrev pub lent_scalar : List ℕ → List ℕ → List ℕ → ScalarLent
lent_scalar w delta pads = record { w = w; delta = delta; pads = pads }

-- its tests: w has 16 bytes an output and Δ, which has some byte above 0, 16 bytes; the window ends by 32,768; room is asked for two
-- pads an output
abbrev pub scalar_tests : ℕ → ℕ → List ℕ → List ℕ → ℕ → List Test
scalar_tests first count w delta room =
    length w is 16 * count or bad_length
    ∷ length delta is 16 or bad_length
    ∷ (first + count) at_most 32768 or window_past_end
    ∷ holds (any_above 0 delta) or bad_delta
    ∷ 32 * count at_most room or buffer_short
    ∷ []

-- it writes the pad of w, then that of w exclusive-or Δ, 32 bytes an output
unfoldable pub scalar_pads_by : Rule → ℕ → ℕ → List ℕ → List ℕ → List ℕ → Outcome (Unit {0}) ScalarLent
scalar_pads_by rule first count w delta pads =
    answered (scalar_tests first count w delta (length pads)) (refused_none (lent_scalar w delta pads))
    (wrote tt
    (lent_scalar w delta (over pad_pair_bytes count (λ k. pad_pair rule (first + k) (at block_bytes w k) (at block_bytes delta 0)) pads)))

-- ---- both calls

abbrev pub noise_pads : ℕ → ℕ → List ℕ → List ℕ → List ℕ → Outcome (Unit {0}) NoiseLent
noise_pads = noise_pads_by pad

abbrev pub scalar_pads : ℕ → ℕ → List ℕ → List ℕ → List ℕ → Outcome (Unit {0}) ScalarLent
scalar_pads = scalar_pads_by pad

-- a call returns 0 exactly if its tests are all met; 16 bytes have one above 0 exactly if their block is not zero
pub record Accepts (rule : Rule) : Type 0 where
  pub noise : (first count : ℕ) (v choices pads : List ℕ)
      → AllMet (noise_tests first count v choices (length pads)) ↔ (noise_pads_by rule first count v choices pads).number ≡ 0
  pub scalar : (first count : ℕ) (w delta pads : List ℕ)
      → AllMet (scalar_tests first count w delta (length pads)) ↔ (scalar_pads_by rule first count w delta pads).number ≡ 0
  pub nonzero : (delta : List ℕ) → length delta ≡ 16 → any_above 0 delta ≡ true ↔ (at block_bytes delta 0 ≡ block_zero → ⊥)
