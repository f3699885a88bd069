-- What the bench shows (document 02, 11): for every accepted record and window the expansion gives the same u, v, w and lengths
-- as the online call on the record's offline vectors, whatever stood in the buffers.
use Rattle.std.specs.Prelude.{List, ◌≡◌, ℕ}
use Rattle.answer.specs.Numbers.{bad_length, not_element}
use Rattle.answer.specs.Outcome.{Outcome, TwoWritten}
use Rattle.record.specs.Content.{Head}
use Rattle.ends.specs.Noise.Offline as noise_offline
use Rattle.ends.specs.Noise.Online as noise_online
use Rattle.ends.specs.Scalar.Offline as scalar_offline
use Rattle.ends.specs.Scalar.Online as scalar_online
use Rattle.ends.specs.Noise.Bench as noise
use Rattle.ends.specs.Scalar.Bench as scalar

-- the online call on the record and the words that its offline call wrote, with any output buffers
abbrev pub noise_online_call : {h : Head} → noise_offline.Expanded h → ℕ → ℕ → List ℕ → List ℕ → Outcome TwoWritten noise_online.Lent
noise_online_call E first count u_out v_out =
    noise_online.online
    (noise_online.lent_with E.source (noise_offline.noise_of (noise_offline.after E)) (noise_offline.v_of (noise_offline.after E)) u_out v_out) first count

abbrev pub scalar_online_call : {h : Head} → scalar_offline.Expanded h → ℕ → ℕ → List ℕ → Outcome ℕ scalar_online.Lent
scalar_online_call D first count w_out =
    scalar_online.online (scalar_online.lent_with D.source (scalar_offline.w_of (scalar_offline.after D)) w_out) first count

-- what such a call returns, and leaves in the record and in the output buffers
abbrev pub noise_seen : Outcome TwoWritten noise_online.Lent → Outcome TwoWritten noise.Lent
noise_seen o =
    record { number = o.number; written = o.written; lent = noise.lent_with o.lent.source o.lent.u_out o.lent.v_out }

abbrev pub scalar_seen : Outcome ℕ scalar_online.Lent → Outcome ℕ scalar.Lent
scalar_seen o = record { number = o.number; written = o.written; lent = scalar.lent_with o.lent.source o.lent.w_out }

pub record Bench : Type 0 where
  -- for every accepted record, window and output buffers the expansion is the online call, refusals by 7 and 13 too
  pub noise-same : (h : Head) (E : noise_offline.Expanded h) (first count : ℕ) (u_out v_out : List ℕ)
      → noise.bench_expansion (noise.lent_with E.source u_out v_out) first count ≡ noise_seen (noise_online_call E first count u_out v_out)
  pub scalar-same : (h : Head) (D : scalar_offline.Expanded h) (first count : ℕ) (w_out : List ℕ)
      → scalar.bench_expansion (scalar.lent_with D.source w_out) first count ≡ scalar_seen (scalar_online_call D first count w_out)
  -- on those vectors the online call refuses neither by 3 nor by 8
  pub noise-vectors : (h : Head) (E : noise_offline.Expanded h) (first count : ℕ) (u_out v_out : List ℕ)
      → ((noise_online_call E first count u_out v_out).number ≡ bad_length → ⊥) × ((noise_online_call E first count u_out v_out).number ≡ not_element → ⊥)
  pub scalar_vector : (h : Head) (D : scalar_offline.Expanded h) (first count : ℕ) (w_out : List ℕ)
      → ((scalar_online_call D first count w_out).number ≡ bad_length → ⊥) × ((scalar_online_call D first count w_out).number ≡ not_element → ⊥)
