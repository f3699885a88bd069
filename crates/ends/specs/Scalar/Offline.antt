-- The scalar end's offline call (document 01, 'Offline and online', 'Numbers of the calls': the record, then 13): from
-- everything lent to everything that stands on return.
use Rattle.std.specs.Prelude.{◌≡◌, List, [], ◌∷◌, ◌++◌, ℕ, length, take, drop}
use Rattle.answer.specs.Numbers.{accepted, buffer_short}
use Rattle.answer.specs.Tests.{Test, ◌at_most◌, ◌or◌}
use Rattle.answer.specs.Outcome.{Outcome, TwoWritten, answered, refused_two, wrote}
use Rattle.number.specs.Reading.{Whole, after_reading}
use Rattle.record.specs.Content.{Head, ScalarPart}
use Rattle.record.specs.Reading.{read_scalar}
use Rattle.window.specs.Head.{field_of, places}
use Rattle.ends.specs.Parts.{vector_words, accumulated_over}
use Rattle.ends.specs.Scalar.Vectors.{w0, delta_out}

-- what is lent: the record and both buffers
pub record OfflineLent : Type 0 where
  pub source : List ℕ
  pub w : List ℕ
  pub delta : List ℕ

abbrev pub offline_with : List ℕ → List ℕ → List ℕ → OfflineLent
offline_with source w delta = record { source = source; w = w; delta = delta }

-- its tests: room for N elements of w and the two words of Δ
abbrev pub offline_tests : ScalarPart → List ℕ → List ℕ → List Test
offline_tests P w delta =
    vector_words P.head at_most length w or buffer_short
    ∷ 2 at_most length delta or buffer_short
    ∷ []

-- the accumulated w0 and the two words of Δ over the fronts of the buffers
unfoldable pub expanded : ScalarPart → List ℕ → List ℕ → List ℕ → OfflineLent
expanded P source w delta =
    record {
      source = source;
      w = accumulated_over (field_of P.head) (places P.head) (w0 P) w;
      delta = delta_out P ++ drop 2 delta;
    }

-- the call: the record's number, else that of the first test that is not met, else N elements of w and Δ
unfoldable pub offline : List ℕ → List ℕ → List ℕ → Outcome TwoWritten OfflineLent
offline source w delta =
    after_reading (read_scalar source) (refused_two (offline_with source w delta))
    (λ P. answered (offline_tests P w delta) (refused_two (offline_with source w delta))
    (wrote (record { first_written = vector_words P.head; second_written = 2 }) (expanded P source w delta)))

-- the accumulated w and the words of Δ that a call wrote: the fronts of its buffers, of the returned lengths
abbrev pub w_of : Outcome TwoWritten OfflineLent → List ℕ
w_of o = take o.written.first_written o.lent.w

abbrev pub delta_of : Outcome TwoWritten OfflineLent → List ℕ
delta_of o = take o.written.second_written o.lent.delta

-- an accepted record of a head, and an accepted call on it
pub record Expanded (h : Head) : Type 0 where
  pub source : List ℕ
  pub delta : List ℕ
  pub roots : List (List ℕ)
  pub read : read_scalar source ≡ Whole (record { head = h; delta = delta; roots = roots })
  pub w_buffer : List ℕ
  pub delta_buffer : List ℕ
  pub number : (offline source w_buffer delta_buffer).number ≡ accepted

-- the content of the record, and what stands after the call
abbrev pub content : {h : Head} → Expanded h → ScalarPart
content {h} D = record { head = h; delta = D.delta; roots = D.roots }

abbrev pub after : {h : Head} → Expanded h → Outcome TwoWritten OfflineLent
after D = offline D.source D.w_buffer D.delta_buffer
