-- The noise end's expansion for the bench (document 02, 11: after the record 7, then 13): from everything lent to everything
-- that stands on return.
use Rattle.std.specs.Prelude.{List, [], ◌∷◌, ℕ, ◌+◌, ◌*◌, length}
use Rattle.answer.specs.Numbers.{window_past_end, buffer_short}
use Rattle.answer.specs.Outcome.{Outcome, TwoWritten, answered, refused_two, wrote}
use Rattle.answer.specs.Tests.{Test, ◌at_most◌, ◌or◌}
use Rattle.algebra.specs.Coding.{over}
use Rattle.algebra.specs.Field.{NoiseValue, Value}
use Rattle.algebra.specs.Group.{itself}
use Rattle.algebra.specs.Row.{entry, row_times}
use Rattle.number.specs.Reading.{after_reading}
use Rattle.record.specs.Content.{Head, NoisePart}
use Rattle.record.specs.Reading.{read_noise}
use Rattle.window.specs.Head.{field_of, places, row}
use Rattle.ends.specs.Noise.Vectors.{mu, v0}

-- what is lent: the record and the output buffers
pub record Lent : Type 0 where
  pub source : List ℕ
  pub u_out : List ℕ
  pub v_out : List ℕ

abbrev pub lent_with : List ℕ → List ℕ → List ℕ → Lent
lent_with source u_out v_out = record { source = source; u_out = u_out; v_out = v_out }

-- its tests after the record: the window ends by n; room is asked for c words of u and c elements of v
abbrev pub bench_tests : Head → ℕ → ℕ → ℕ → ℕ → List Test
bench_tests h first count u_room v_room =
    (first + count) at_most h.outputs or window_past_end
    ∷ count at_most u_room or buffer_short
    ∷ count * (field_of h).elements.width at_most v_room or buffer_short
    ∷ []

-- u and v at index x: the sum, over row x of the code matrix, of entry × the value of μ, or of v0, at its place
unfoldable pub u_at : (P : NoisePart) → ℕ → NoiseValue (field_of P.head)
u_at P x = row_times (itself (field_of P.head).ring) (places P.head) (entry (row P.head x)) (mu P)

unfoldable pub v_at : (P : NoisePart) → ℕ → Value (field_of P.head)
v_at P x = row_times (field_of P.head).scaled (places P.head) (entry (row P.head x)) (v0 P)

-- the window's c words of u and c elements of v over the fronts of the output buffers
unfoldable pub filled : NoisePart → Lent → ℕ → ℕ → Lent
filled P l first count =
    lent_with l.source
    (over (field_of P.head).noise_values count (λ k. u_at P (first + k)) l.u_out)
    (over (field_of P.head).elements count (λ k. v_at P (first + k)) l.v_out)

-- on the record's content: the window
unfoldable pub bench_window : NoisePart → Lent → ℕ → ℕ → Outcome TwoWritten Lent
bench_window P l first count =
    answered (bench_tests P.head first count (length l.u_out) (length l.v_out)) (refused_two l)
    (wrote (record { first_written = count; second_written = count * (field_of P.head).elements.width }) (filled P l first count))

-- the call: the record's number, or the window
unfoldable pub bench_expansion : Lent → ℕ → ℕ → Outcome TwoWritten Lent
bench_expansion l first count = after_reading (read_noise l.source) (refused_two l) (λ P. bench_window P l first count)
