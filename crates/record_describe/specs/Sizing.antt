-- What the description of an accepted record says: two answers tell whether the records are of the same dealing (document 02, 8), and
-- the sizes are what that end's calls use: with N leaves and W words an element, the
-- offline call has room exactly with N and N × W words (13), the online call takes exactly such vectors (3) and windows up to n
-- (7), and writes c words and c × W words (13).
use Rattle.std.specs.Prelude.{List, [], ◌∷◌, ◌↔◌, ◌≡◌, ℕ, ◌+◌, ◌*◌, length}
use Rattle.answer.specs.Numbers.{accepted, bad_length, window_past_end, not_element, buffer_short}
use Rattle.answer.specs.Tests.{Ask, Test, ◌is◌, ◌at_most◌, ◌or◌, first_fault}
use Rattle.number.specs.Reading.{Whole}
use Rattle.record.specs.Content.{NoisePart, ScalarPart}
use Rattle.record.specs.Reading.{read_noise, read_scalar}
use Rattle.ends.specs.Noise.Offline as noise_offline
use Rattle.ends.specs.Noise.Online as noise_online
use Rattle.ends.specs.Scalar.Offline as scalar_offline
use Rattle.ends.specs.Scalar.Online as scalar_online
use Rattle.record_describe.specs.declared.Described.{Described}
use Rattle.record_describe.specs.Describe.{refused, describe}

-- the answer for a record
abbrev pub answer_for : List ℕ → Described
answer_for s = (describe s).answer

-- how many words N elements take, and how many c elements take
abbrev pub vector_words : Described → ℕ
vector_words D = D.leaves * D.element_words

abbrev pub window_words : Described → ℕ → ℕ
window_words D count = count * D.element_words

-- a window ends by n
abbrev pub ends_within : Described → ℕ → ℕ → Ask
ends_within D first count = (first + count) at_most D.outputs

-- by a description the tests of an offline call, 13, at the noise end and at the scalar end
abbrev pub noise_rooms : Described → List ℕ → List ℕ → List Test
noise_rooms D noise v = D.leaves at_most length noise or buffer_short ∷ vector_words D at_most length v or buffer_short ∷ []

abbrev pub scalar_rooms : Described → List ℕ → List ℕ → List Test
scalar_rooms D w delta = vector_words D at_most length w or buffer_short ∷ 2 at_most length delta or buffer_short ∷ []

-- and the tests 3, 7 and 13 of an online call
abbrev pub noise_lengths : Described → noise_online.Lent → ℕ → ℕ → List Test
noise_lengths D l first count =
    length l.noise is D.leaves or bad_length
    ∷ length l.v is vector_words D or bad_length
    ∷ ends_within D first count or window_past_end
    ∷ count at_most length l.u_out or buffer_short
    ∷ window_words D count at_most length l.v_out or buffer_short
    ∷ []

abbrev pub scalar_lengths : Described → scalar_online.Lent → ℕ → ℕ → List Test
scalar_lengths D l first count =
    length l.w is vector_words D or bad_length
    ∷ ends_within D first count or window_past_end
    ∷ window_words D count at_most length l.w_out or buffer_short
    ∷ []

-- an answer without its end
abbrev pub without_end : Described → Described
without_end D =
    record {
      number = D.number;
      end = 0;
      field = D.field;
      depth = D.depth;
      branch_bits = D.branch_bits;
      trees = D.trees;
      terms = D.terms;
      outputs = D.outputs;
      leaves = D.leaves;
      element_words = D.element_words;
      label = D.label;
      code_key = D.code_key;
    }

pub record Sizing : Type 0 where
  -- two accepted records are of the same dealing, their heads equal, exactly if their answers are alike but for the end
  pub same : (s u : List ℕ) → (answer_for s).end ≡ 1 → (answer_for u).end ≡ 2 → (P : NoisePart) (Q : ScalarPart) → read_noise s ≡ Whole P
      → read_scalar u ≡ Whole Q → P.head ≡ Q.head ↔ without_end (answer_for s) ≡ without_end (answer_for u)
  -- an answer that tells neither end is a refused record's: its number and zeros
  pub neither : (s : List ℕ) → ((answer_for s).end ≡ 1 → ⊥) → ((answer_for s).end ≡ 2 → ⊥) → answer_for s ≡ refused (answer_for s).number
  -- the offline calls: 13 unless there is room for N words of noise and N elements, at the scalar end for N elements and two words
  pub noise-offline : (s : List ℕ) → (answer_for s).end ≡ 1 → (noise v : List ℕ)
      → (noise_offline.offline s noise v).number
      ≡ first_fault (noise_rooms (answer_for s) noise v)
  pub scalar-offline : (s : List ℕ) → (answer_for s).end ≡ 2 → (w delta : List ℕ)
      → (scalar_offline.offline s w delta).number
      ≡ first_fault (scalar_rooms (answer_for s) w delta)
  -- the online calls: 3, 7 and 13 by these lengths, and 8 only where those are passed
  pub noise-online : (l : noise_online.Lent) → (answer_for l.source).end ≡ 1 → (first count : ℕ)
      → ((noise_online.online l first count).number ≡ not_element → ⊥)
      → (noise_online.online l first count).number ≡ first_fault (noise_lengths (answer_for l.source) l first count)
  pub noise-elements : (l : noise_online.Lent) → (answer_for l.source).end ≡ 1 → (first count : ℕ)
      → (noise_online.online l first count).number ≡ not_element
      → first_fault (noise_lengths (answer_for l.source) l first count) ≡ accepted
  pub scalar-online : (l : scalar_online.Lent) → (answer_for l.source).end ≡ 2 → (first count : ℕ)
      → ((scalar_online.online l first count).number ≡ not_element → ⊥)
      → (scalar_online.online l first count).number ≡ first_fault (scalar_lengths (answer_for l.source) l first count)
  pub scalar-elements : (l : scalar_online.Lent) → (answer_for l.source).end ≡ 2 → (first count : ℕ)
      → (scalar_online.online l first count).number ≡ not_element
      → first_fault (scalar_lengths (answer_for l.source) l first count) ≡ accepted
