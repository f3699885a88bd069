-- Pads of a source's outputs as later calls take them (document 02, 1 and 6: pads at equal indices of one accepted dealing).
use Rattle.std.specs.Prelude.{◌≡◌, List, ℕ, ◌≤◌, ◌<◌}
use Rattle.dealing.specs.Deal.{deal}
use Rattle.dealing.specs.Input.{Input}
use Rattle.pads.specs.Calls.{noise_pads, scalar_pads}
use Rattle.pads.specs.Choice.{InWindow, pad_at, one_of_two_at}
use Rattle.claims.specs.Correlation.{PadsLent}
use Rattle.claims.specs.Source.{Source, source_field, dealt_by}

-- an accepted dealing of field 1
pub record Dealing : Type 0 where
  pub input : Input
  pub binary : input.field ≡ 1
  pub noise_record : List ℕ
  pub scalar_record : List ℕ
  pub dealt : (deal input noise_record scalar_record).number ≡ 0

-- its outputs
abbrev pub outputs_of : Dealing → Source
outputs_of D = dealt_by D.input

-- what is lent to later calls of both ends, for place k of the noise end's and place k' of the scalar end's, belongs to one output x of
-- a source: the choice is u at x, and the noise end's 16 bytes and both pads of the scalar end's 32 are those that accepted pad calls, in
-- any windows, write for x where the bytes lent to them for x are the source's
pub record TakenAt (s : Source) (choices pads pad_pairs : List ℕ) (k k' : ℕ) : Type 0 where
  pub x : ℕ
  pub below : x < s.outputs
  -- the noise end's pad call
  pub first : ℕ
  pub count : ℕ
  pub vs : List ℕ
  pub us : List ℕ
  pub out : List ℕ
  pub accepted : (noise_pads first count vs us out).number ≡ 0
  pub within : InWindow first count x
  -- the scalar end's pad call
  pub first' : ℕ
  pub count' : ℕ
  pub ws : List ℕ
  pub Δ : List ℕ
  pub out' : List ℕ
  pub accepted' : (scalar_pads first' count' ws Δ out').number ≡ 0
  pub within' : InWindow first' count' x
  pub lent : PadsLent s x first vs us first' ws Δ
  -- what is lent for k and k'
  pub choice : (source_field s).noise_values.read choices k ≡ s.u x
  pub pad : pad_at pads 0 k ≡ pad_at (noise_pads first count vs us out).lent.pads first x
  pub both : (bit : ℕ) → bit ≤ 1 → one_of_two_at pad_pairs 0 k' bit ≡ one_of_two_at (scalar_pads first' count' ws Δ out').lent.pads first' x bit

-- at each place below a count both ends lend pads of one index x; two places may have equal ones
abbrev pub Taken : Source → ℕ → List ℕ → List ℕ → List ℕ → Type 0
Taken s count choices pads pad_pairs = (k : ℕ) → k < count → TakenAt s choices pads pad_pairs k k
