-- What accumulated buffers tell (document 02, 12): statements about the words that the offline calls write.
use Rattle.std.specs.Prelude.{◌≡◌, map, ◌↔◌, ℕ, ◌≤◌, ◌<◌}
use Rattle.algebra.specs.Coding.{at}
use Rattle.algebra.specs.Expansion.{Correlated}
use Rattle.number.specs.Reading.{Bytes}
use Rattle.record.specs.Content.{Head}
use Rattle.window.specs.Head.{field_of, places}
use Rattle.ends.specs.Noise.Offline as noise_offline
use Rattle.ends.specs.Noise.Vectors.{mu, v0}
use Rattle.ends.specs.Scalar.Offline as scalar_offline
use Rattle.ends.specs.Scalar.Vectors.{delta, w0}

-- w = Δu + v at place j, of the words that an offline call of each end wrote
abbrev pub AccumulatedAt : {h : Head} → noise_offline.Expanded h → scalar_offline.Expanded h → ℕ → Type 0
AccumulatedAt {h} E D j =
    Correlated (field_of h).scaled (at (field_of h).elements (scalar_offline.delta_of (scalar_offline.after D)) 0)
    (at (field_of h).noise_values (noise_offline.noise_of (noise_offline.after E)) j)
    (at (field_of h).elements (noise_offline.v_of (noise_offline.after E)) j)
    (at (field_of h).elements (scalar_offline.w_of (scalar_offline.after D)) j)

-- w0 = Δμ + v0 at place j, of the vectors of both records before they are accumulated
abbrev pub VectorsAt : {h : Head} → noise_offline.Expanded h → scalar_offline.Expanded h → ℕ → Type 0
VectorsAt {h} E D j =
    Correlated (field_of h).scaled (delta (scalar_offline.content D))
    (mu (noise_offline.content E) j) (v0 (noise_offline.content E) j) (w0 (scalar_offline.content D) j)

-- at all places below k
abbrev pub Below : ℕ → (ℕ → Type 0) → Type 0
Below k Holds = (j : ℕ) → j < k → Holds j

pub record Buffers : Type 0 where
  -- for a noise and a scalar record whose heads agree but for the end byte, dealt together or not, the accumulated vectors
  -- satisfy w = Δu + v at all places below k exactly when w0 = Δμ + v0 holds there; with k = N, at all N places (`Bytes`: a record is
  -- a list of bytes, as whatever a call is lent)
  pub correlation : (h : Head) (E : noise_offline.Expanded h) → Bytes E.source → (D : scalar_offline.Expanded h) (k : ℕ) → k ≤ places h
      → Below k (AccumulatedAt E D) ↔ Below k (VectorsAt E D)
  -- two noise records with equal heads give the same accumulated noise only if positions and noise values are equal
  pub noise : (h : Head) (E E' : noise_offline.Expanded h) → Bytes E.source → Bytes E'.source
      → noise_offline.noise_of (noise_offline.after E) ≡ noise_offline.noise_of (noise_offline.after E')
      → (map (λ t. t.position) E.trees ≡ map (λ t. t.position) E'.trees)
      × (map (λ t. t.value) E.trees ≡ map (λ t. t.value) E'.trees)
