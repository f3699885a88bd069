-- The scalar end's expansion for the bench (document 02, 11: after the record 7, then 13): from everything lent to everything
-- that stands on return.
use Rattle.std.specs.Prelude.{List, [], ◌∷◌, ℕ, ◌+◌, ◌*◌, length}
use Rattle.answer.specs.Numbers.{window_past_end, buffer_short}
use Rattle.answer.specs.Outcome.{Outcome, answered, refused_one, wrote}
use Rattle.answer.specs.Tests.{Test, ◌at_most◌, ◌or◌}
use Rattle.algebra.specs.Coding.{over}
use Rattle.algebra.specs.Field.{Value}
use Rattle.algebra.specs.Row.{entry, row_times}
use Rattle.number.specs.Reading.{after_reading}
use Rattle.record.specs.Content.{Head, ScalarPart}
use Rattle.record.specs.Reading.{read_scalar}
use Rattle.window.specs.Head.{field_of, places, row}
use Rattle.ends.specs.Scalar.Vectors.{w0}

-- what is lent: the record and the output buffer
pub record Lent : Type 0 where
  pub source : List ℕ
  pub w_out : List ℕ

abbrev pub lent_with : List ℕ → List ℕ → Lent
lent_with source w_out = record { source = source; w_out = w_out }

-- its tests after the record: the window ends by n; room is asked for c elements of w
abbrev pub bench_tests : Head → ℕ → ℕ → ℕ → List Test
bench_tests h first count room =
    (first + count) at_most h.outputs or window_past_end
    ∷ count * (field_of h).elements.width at_most room or buffer_short
    ∷ []

-- w at index x: the sum, over row x of the code matrix, of entry × the value of w0 at its place
unfoldable pub w_at : (P : ScalarPart) → ℕ → Value (field_of P.head)
w_at P x = row_times (field_of P.head).scaled (places P.head) (entry (row P.head x)) (w0 P)

-- the window's c elements of w over the front of the output buffer
unfoldable pub filled : ScalarPart → Lent → ℕ → ℕ → Lent
filled P l first count = lent_with l.source (over (field_of P.head).elements count (λ k. w_at P (first + k)) l.w_out)

-- on the record's content: the window
unfoldable pub bench_window : ScalarPart → Lent → ℕ → ℕ → Outcome ℕ Lent
bench_window P l first count =
    answered (bench_tests P.head first count (length l.w_out)) (refused_one l)
    (wrote (count * (field_of P.head).elements.width) (filled P l first count))

-- the call: the record's number, or the window
unfoldable pub bench_expansion : Lent → ℕ → ℕ → Outcome ℕ Lent
bench_expansion l first count = after_reading (read_scalar l.source) (refused_one l) (λ P. bench_window P l first count)
