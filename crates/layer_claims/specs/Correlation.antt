-- Demand 3's claim of every two lists, on layers: each end adds its accumulated vectors up and makes online calls, each with the record of
-- any layer.
use Rattle.std.specs.Prelude.{◌≡◌, List, [], ◌∷◌, ℕ, ◌<◌, eqb, get_or}
use Rattle.algebra.specs.Choice.{choose}
use Rattle.algebra.specs.Coding.{at}
use Rattle.algebra.specs.Expansion.{Correlated}
use Rattle.algebra.specs.Field.{NoiseValue, Value}
use Rattle.algebra.specs.Order.{Order, Once}
use Rattle.answer.specs.Outcome.{Outcome, TwoWritten}
use Rattle.dealing.specs.Input.{delta_words}
use Rattle.dealing.specs.Vectors.{delta}
use Rattle.ends.specs.Noise.Offline as noise_offline
use Rattle.ends.specs.Noise.Online as noise_online
use Rattle.ends.specs.Scalar.Offline as scalar_offline
use Rattle.ends.specs.Scalar.Online as scalar_online
use Rattle.claims.specs.Correlation as alone
use Rattle.claims.specs.Correlation.{Call, End, Hands, EndClaim, NoiseOut, noise_expanded, scalar_expanded, scalar_delta}
use Rattle.layer_claims.specs.Adding.{added_up, Accepted}
use Rattle.layer_claims.specs.Layers.{Layers, shared, field, u, v, w}

-- what the offline calls of layer i wrote
abbrev pub noise_at : Layers → ℕ → List ℕ
noise_at L i = noise_offline.noise_of (noise_expanded (L.layer i))

abbrev pub v_at : Layers → ℕ → List ℕ
v_at L i = noise_offline.v_of (noise_expanded (L.layer i))

abbrev pub w_at : Layers → ℕ → List ℕ
w_at L i = scalar_offline.w_of (scalar_expanded (L.layer i))

-- the orders in which the ends add them, noise and v at one, w at the other: in each every layer stands once
pub record Orders (L : Layers) : Type 0 where
  pub noise : Order
  pub noise-once : Once L.count noise
  pub v : Order
  pub v_once : Once L.count v
  pub w : Order
  pub w_once : Once L.count w

-- ---- calls with the record of any layer

-- a listed call's buffers, and the layer whose record it takes
pub record WithLayer (L : Layers) (Out : Type 0) : Type 0 where
  pub layer : ℕ
  pub below : layer < L.count
  pub out : Out

-- the call by itself
abbrev pub itself : {L : Layers} {Out : Type 0} → Call (WithLayer L Out) → Call Out
itself c = record { first = c.first; count = c.count; out = c.out.out }

-- what is lent on return, and the records of all layers
pub record AllLent (Lent : Type 0) : Type 0 where
  pub records : ℕ → List ℕ
  pub lent : Lent

-- an outcome with the records of all layers, that of layer i as the call left it
abbrev pub with_records : {Written Lent : Type 0} → (ℕ → List ℕ) → ℕ → (Lent → List ℕ) → Outcome Written Lent
    → Outcome Written (AllLent Lent)
with_records records i left o =
    record {
      number = o.number;
      written = o.written;
      lent = record { records = λ j. choose (eqb j i) (left o.lent) (records j); lent = o.lent };
    }

-- ---- the noise end: as on the first layer alone, but for what is in memory and what is handed out

pub record NoiseMemory : Type 0 where
  pub records : ℕ → List ℕ
  pub noise : List ℕ
  pub v : List ℕ

abbrev pub noise_end : (L : Layers) → Orders L → End
noise_end L O =
    let first = alone.noise_end (L.layer 0) in
    record {
      Memory = NoiseMemory;
      start = record {
        records = λ i. (noise_expanded (L.layer i)).lent.source;
        noise = added_up (shared L).field (noise_at L) O.noise;
        v = added_up (shared L).field (v_at L) O.v;
      };
      Out = WithLayer L NoiseOut;
      Written = TwoWritten;
      Lent = AllLent noise_online.Lent;
      online = λ m c.
          with_records m.records c.out.layer (λ l. l.source)
          (first.online (record { source = m.records c.out.layer; noise = m.noise; v = m.v }) (itself c));
      memory = λ l. record { records = l.records; noise = l.lent.noise; v = l.lent.v };
      tests = λ c. first.tests (itself c);
      Output = first.Output;
      standing = λ l k. first.standing l.lent k;
      dealt = λ x. (u L x, v L x);
    }

-- ---- the scalar end

pub record ScalarMemory : Type 0 where
  pub records : ℕ → List ℕ
  pub w : List ℕ

abbrev pub scalar_end : (L : Layers) → Orders L → End
scalar_end L O =
    let first = alone.scalar_end (L.layer 0) in
    record {
      Memory = ScalarMemory;
      start = record {
        records = λ i. (scalar_expanded (L.layer i)).lent.source;
        w = added_up (shared L).field (w_at L) O.w;
      };
      Out = WithLayer L (List ℕ);
      Written = ℕ;
      Lent = AllLent scalar_online.Lent;
      online = λ m c.
          with_records m.records c.out.layer (λ l. l.source)
          (first.online (record { source = m.records c.out.layer; w = m.w }) (itself c));
      memory = λ l. record { records = l.records; w = l.lent.w };
      tests = λ c. first.tests (itself c);
      Output = first.Output;
      standing = λ l k. first.standing l.lent k;
      dealt = w L;
    }

-- ---- the single claim about every two lists

pub record Claim (L : Layers) (O : Orders L) (noise_calls : List (Call (WithLayer L NoiseOut)))
    (scalar_calls : List (Call (WithLayer L (List ℕ)))) : Type 0 where
  -- every call that adds is accepted
  pub noise-added : Accepted (shared L).field (noise_at L) O.noise
  pub v_added : Accepted (shared L).field (v_at L) O.v
  pub w_added : Accepted (shared L).field (w_at L) O.w
  -- of each list: the numbers, what is handed out, and the memory
  pub noise : EndClaim (noise_end L O) noise_calls
  pub scalar : EndClaim (scalar_end L O) scalar_calls
  -- Δ, as the scalar end's offline call on any layer left it, is the shared one, whole
  pub scalar-words : (i : ℕ) → i < L.count
      → scalar_delta (L.layer i) ≡ get_or (delta_words (shared L)) 0 0 ∷ get_or (delta_words (shared L)) 1 0 ∷ []
  -- w = Δu + v at each index that both ends hand out
  pub correlated : (x : ℕ) (u' : NoiseValue (field L)) (v' w' : Value (field L))
      → Hands (noise_end L O) noise_calls x (u', v') → Hands (scalar_end L O) scalar_calls x w'
      → Correlated (field L).scaled (delta (shared L)) u' v' w'

abbrev pub LayerLists : Type 0
LayerLists =
    (L : Layers) (O : Orders L) (noise_calls : List (Call (WithLayer L NoiseOut))) (scalar_calls : List (Call (WithLayer L (List ℕ))))
    → Claim L O noise_calls scalar_calls
