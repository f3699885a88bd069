-- The noise end's offline call (document 01, 'Offline and online', 'Numbers of the calls': the record, then 13): from
-- everything lent to everything that stands on return.
use Rattle.std.specs.Prelude.{◌≡◌, List, [], ◌∷◌, ℕ, length, take}
use Rattle.answer.specs.Numbers.{accepted, buffer_short}
use Rattle.answer.specs.Tests.{Test, ◌at_most◌, ◌or◌}
use Rattle.answer.specs.Outcome.{Outcome, TwoWritten, answered, refused_two, wrote}
use Rattle.number.specs.Reading.{Whole, after_reading}
use Rattle.record.specs.Content.{Head, NoiseTree, NoisePart}
use Rattle.record.specs.Reading.{read_noise}
use Rattle.window.specs.Head.{field_of, of_noise, places}
use Rattle.ends.specs.Parts.{vector_words, accumulated_over}
use Rattle.ends.specs.Noise.Vectors.{mu, v0}

-- what is lent: the record and both buffers
pub record OfflineLent : Type 0 where
  pub source : List ℕ
  pub noise : List ℕ
  pub v : List ℕ

abbrev pub offline_with : List ℕ → List ℕ → List ℕ → OfflineLent
offline_with source noise v = record { source = source; noise = noise; v = v }

-- its tests: room for N words of noise and N elements of v
abbrev pub offline_tests : NoisePart → List ℕ → List ℕ → List Test
offline_tests P noise v =
    places P.head at_most length noise or buffer_short
    ∷ vector_words P.head at_most length v or buffer_short
    ∷ []

-- the accumulated μ and the accumulated v0 over the fronts of the buffers
unfoldable pub expanded : NoisePart → List ℕ → List ℕ → List ℕ → OfflineLent
expanded P source noise v =
    record {
      source = source;
      noise = accumulated_over (of_noise (field_of P.head)) (places P.head) (mu P) noise;
      v = accumulated_over (field_of P.head) (places P.head) (v0 P) v;
    }

-- the call: the record's number, else that of the first test that is not met, else N words of noise and N elements of v
unfoldable pub offline : List ℕ → List ℕ → List ℕ → Outcome TwoWritten OfflineLent
offline source noise v =
    after_reading (read_noise source) (refused_two (offline_with source noise v))
    (λ P. answered (offline_tests P noise v) (refused_two (offline_with source noise v))
    (wrote (record { first_written = places P.head; second_written = vector_words P.head }) (expanded P source noise v)))

-- the accumulated noise and the accumulated v that a call wrote: the fronts of its buffers, of the returned lengths
abbrev pub noise_of : Outcome TwoWritten OfflineLent → List ℕ
noise_of o = take o.written.first_written o.lent.noise

abbrev pub v_of : Outcome TwoWritten OfflineLent → List ℕ
v_of o = take o.written.second_written o.lent.v

-- an accepted record of a head, and an accepted call on it
pub record Expanded (h : Head) : Type 0 where
  pub source : List ℕ
  pub trees : List NoiseTree
  pub read : read_noise source ≡ Whole (record { head = h; trees = trees })
  pub noise_buffer : List ℕ
  pub v_buffer : List ℕ
  pub number : (offline source noise_buffer v_buffer).number ≡ accepted

-- the content of the record, and what stands after the call
abbrev pub content : {h : Head} → Expanded h → NoisePart
content {h} E = record { head = h; trees = E.trees }

abbrev pub after : {h : Head} → Expanded h → Outcome TwoWritten OfflineLent
after E = offline E.source E.noise_buffer E.v_buffer
