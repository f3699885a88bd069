-- Demand 3 (document 01, 'Lists of calls at both ends') of workings, the definitions that the inner calls' contracts cite. The promise is
-- `Demand3` of `page_claims`, over the page.
use Rattle.std.specs.Prelude.{◌≡◌, List, [], ◌∷◌, ℕ, ◌+◌, ◌-◌, ◌*◌, ◌<◌, length, get_or}
use Rattle.std.proofs.Math.Option.{some}
use Rattle.std.proofs.Math.ListN.{get_elem?}
use Rattle.algebra.specs.Coding.{at}
use Rattle.algebra.specs.Expansion.{Correlated}
use Rattle.algebra.specs.Field.{NoiseValue, Value}
use Rattle.answer.specs.Numbers.{window_past_end, buffer_short}
use Rattle.answer.specs.Tests.{Test, ◌at_most◌, ◌or◌, first_fault}
use Rattle.answer.specs.Outcome.{Outcome, TwoWritten}
use Rattle.dealing.specs.Admitted.{InMemory}
use Rattle.dealing.specs.Deal.{DealOutcome, deal, noise_record_of, scalar_record_of}
use Rattle.dealing.specs.Input.{Input, delta_words}
use Rattle.dealing.specs.Vectors.{field, delta, u, v, w}
use Rattle.field.specs.Bytes.{word_at}
use Rattle.ends.specs.Noise.Offline as noise_offline
use Rattle.ends.specs.Noise.Online as noise_online
use Rattle.pads.specs.Calls.{noise_pads, scalar_pads}
use Rattle.pads.specs.Choice.{InWindow, pad_at, one_of_two_at}
use Rattle.ends.specs.Scalar.Offline as scalar_offline
use Rattle.ends.specs.Scalar.Online as scalar_online
use Rattle.claims.specs.Source.{Source, source_field, dealt_by}

-- w = Δu + v at each output of every accepted dealing
abbrev pub Outputs : Type 0
Outputs =
    (I : Input) (a b : List ℕ) → (deal I a b).number ≡ 0
    → (x : ℕ) → x < I.outputs → Correlated (field I).scaled (delta I) (u I x) (v I x) (w I x)

-- ---- before the lists: an accepted dealing, and an accepted offline call of each end on its own record

pub record Setting : Type 0 where
  -- the dealing's input, whose numbers lie in lent memory, and the buffers lent for its records
  pub input : Input
  pub in_memory : InMemory input
  pub noise_record : List ℕ
  pub scalar_record : List ℕ
  pub dealt : (deal input noise_record scalar_record).number ≡ 0
  -- the buffers lent to the noise end's offline call
  pub noise_buffer : List ℕ
  pub v_buffer : List ℕ
  pub noise_accepted :
      (noise_offline.offline (noise_record_of (deal input noise_record scalar_record)) noise_buffer v_buffer).number ≡ 0
  -- the buffers lent to the scalar end's offline call
  pub w_buffer : List ℕ
  pub delta_buffer : List ℕ
  pub scalar_accepted :
      (scalar_offline.offline (scalar_record_of (deal input noise_record scalar_record)) w_buffer delta_buffer).number ≡ 0

-- what the dealing left
abbrev pub dealing : Setting → DealOutcome
dealing S = deal S.input S.noise_record S.scalar_record

-- each end's own record: the front of its buffer, of the returned length
abbrev pub noise_source : Setting → List ℕ
noise_source S = noise_record_of (dealing S)

abbrev pub scalar_source : Setting → List ℕ
scalar_source S = scalar_record_of (dealing S)

-- ---- a list of calls, at either end

-- a listed call: a window, and output buffers of any length and content
pub record Call (Out : Type 0) : Type 0 where
  pub first : ℕ
  pub count : ℕ
  pub out : Out

-- an end that has made its offline call
pub record End : Type 1 where
  -- its record and accumulated vectors in memory, as the offline call left them
  pub Memory : Type 0
  pub start : Memory
  -- its online call on memory, and the memory in what is lent on return
  pub Out : Type 0
  pub Written : Type 0
  pub Lent : Type 0
  pub online : Memory → Call Out → Outcome Written Lent
  pub memory : Lent → Memory
  -- the tests of a listed call
  pub tests : Call Out → List Test
  -- what stands at place k of the output buffers on return, and what the dealing has at index x
  pub Output : Type 0
  pub standing : Lent → ℕ → Output
  pub dealt : ℕ → Output

-- each call of a list with its outcome, every call on the memory that the call before left
unfoldable pub run : (E : End) → E.Memory → List (Call E.Out) → List (Call E.Out × Outcome E.Written E.Lent)
run E m [] = []
run E m (c ∷ calls) = (c, E.online m c) ∷ run E (E.memory (E.online m c).lent) calls

-- the memory after the last call of the list
unfoldable pub last : (E : End) → E.Memory → List (Call E.Out) → E.Memory
last E m [] = m
last E m (c ∷ calls) = last E (E.memory (E.online m c).lent) calls

-- a list of calls hands out a at index x: one of them is accepted, x is its first + k for a k below its c, and a is what stands at place
-- k of its output buffers on return; a refused call hands out nothing
pub record Hands (E : End) (calls : List (Call E.Out)) (x : ℕ) (a : E.Output) : Type 0 where
  pub place : ℕ
  pub call : Call E.Out
  pub outcome : Outcome E.Written E.Lent
  pub made : get_elem? (run E E.start calls) place ≡ some (call, outcome)
  pub accepted : outcome.number ≡ 0
  pub k : ℕ
  pub within : k < call.count
  pub index : x ≡ call.first + k
  pub stands : a ≡ E.standing outcome.lent k

-- what demand 3 says of the list of one end
pub record EndClaim (E : End) (calls : List (Call E.Out)) : Type 0 where
  -- every call returns the number of the first of its `tests` that is not met, or 0
  pub numbers : (i : ℕ) (c : Call E.Out) (o : Outcome E.Written E.Lent) → get_elem? (run E E.start calls) i ≡ some (c, o)
      → o.number ≡ first_fault (E.tests c)
  -- what is handed out at x is the dealing's at x
  pub values : (x : ℕ) (a : E.Output) → Hands E calls x a → a ≡ E.dealt x
  -- the record and the vectors end as they began
  pub memory : last E E.start calls ≡ E.start

-- ---- the noise end

-- the record and the accumulated vectors in memory
pub record NoiseMemory : Type 0 where
  pub source : List ℕ
  pub noise : List ℕ
  pub v : List ℕ

-- the output buffers of a call
pub record NoiseOut : Type 0 where
  pub u_out : List ℕ
  pub v_out : List ℕ

-- what its offline call left
abbrev pub noise_expanded : Setting → Outcome TwoWritten noise_offline.OfflineLent
noise_expanded S = noise_offline.offline (noise_source S) S.noise_buffer S.v_buffer

-- its online calls
abbrev pub noise_end : Setting → End
noise_end S =
    record {
      Memory = NoiseMemory;
      start = record { source = (noise_expanded S).lent.source; noise = noise_offline.noise_of (noise_expanded S); v = noise_offline.v_of (noise_expanded S) };
      Out = NoiseOut;
      Written = TwoWritten;
      Lent = noise_online.Lent;
      online = λ m c.
          noise_online.online (noise_online.lent_with m.source m.noise m.v c.out.u_out c.out.v_out) c.first c.count;
      memory = λ l. record { source = l.source; noise = l.noise; v = l.v };
      -- 7 if its window passes n, else 13 if an output buffer is too short for c
      tests = λ c.
          (c.first + c.count) at_most S.input.outputs or window_past_end
          ∷ c.count at_most length c.out.u_out or buffer_short
          ∷ c.count * (field S.input).elements.width at_most length c.out.v_out or buffer_short
          ∷ [];
      -- word k of the first output buffer and element k of the second, to be u and v
      Output = NoiseValue (field S.input) × Value (field S.input);
      standing = λ l k. (at (field S.input).noise_values l.u_out k, at (field S.input).elements l.v_out k);
      dealt = λ x. (u S.input x, v S.input x);
    }

-- ---- the scalar end

-- the record and the accumulated vector in memory
pub record ScalarMemory : Type 0 where
  pub source : List ℕ
  pub w : List ℕ

-- what its offline call left
abbrev pub scalar_expanded : Setting → Outcome TwoWritten scalar_offline.OfflineLent
scalar_expanded S = scalar_offline.offline (scalar_source S) S.w_buffer S.delta_buffer

-- Δ as the offline call left it
abbrev pub scalar_delta : Setting → List ℕ
scalar_delta S = scalar_offline.delta_of (scalar_expanded S)

-- its online calls, with one output buffer
abbrev pub scalar_end : Setting → End
scalar_end S =
    record {
      Memory = ScalarMemory;
      start = record { source = (scalar_expanded S).lent.source; w = scalar_offline.w_of (scalar_expanded S) };
      Out = List ℕ;
      Written = ℕ;
      Lent = scalar_online.Lent;
      online = λ m c. scalar_online.online (scalar_online.lent_with m.source m.w c.out) c.first c.count;
      memory = λ l. record { source = l.source; w = l.w };
      -- 7, else 13, as at the noise end
      tests = λ c.
          (c.first + c.count) at_most S.input.outputs or window_past_end
          ∷ c.count * (field S.input).elements.width at_most length c.out or buffer_short
          ∷ [];
      -- element k of the output buffer, to be w
      Output = Value (field S.input);
      standing = λ l k. at (field S.input).elements l.w_out k;
      dealt = w S.input;
    }

-- ---- the single claim about every two lists

-- what demand 3 says of two lists, one at each end, together
pub record Claim (S : Setting) (noise_calls : List (Call NoiseOut)) (scalar_calls : List (Call (List ℕ))) : Type 0 where
  -- of each: the numbers, what is handed out, and the memory
  pub noise : EndClaim (noise_end S) noise_calls
  pub scalar : EndClaim (scalar_end S) scalar_calls
  -- the scalar end's Δ, as its offline call left it, is the dealing's; whole, it is two words, the second 0 in field 2
  pub scalar-delta : at (field S.input).elements (scalar_delta S) 0 ≡ delta S.input
  pub scalar-words : scalar_delta S ≡ get_or (delta_words S.input) 0 0 ∷ get_or (delta_words S.input) 1 0 ∷ []
  -- w = Δu + v at each index that both ends hand out
  pub correlated : (x : ℕ) (u' : NoiseValue (field S.input)) (v' w' : Value (field S.input))
      → Hands (noise_end S) noise_calls x (u', v') → Hands (scalar_end S) scalar_calls x w'
      → Correlated (field S.input).scaled (delta S.input) u' v' w'

-- for every two lists, one at each end
abbrev pub Lists : Type 0
Lists = (S : Setting) (noise_calls : List (Call NoiseOut)) (scalar_calls : List (Call (List ℕ))) → Claim S noise_calls scalar_calls

-- ---- pads, which stand in no list

-- the element of field 1 whose 16 bytes are those at an output's place: its two words, each LE
abbrev pub lent_element : (s : Source) → List ℕ → ℕ → Value (source_field s)
lent_element s bytes k = (source_field s).elements.read (word_at bytes (k * 16) ∷ word_at bytes (k * 16 + 8) ∷ []) 0

-- the bytes lent for x are the v and u, and at the scalar end the w, of output x of a source, with its Δ; all others are arbitrary
pub record PadsLent (s : Source) (x first : ℕ) (vs choices : List ℕ) (first' : ℕ) (ws Δ : List ℕ) : Type 0 where
  pub v_lent : lent_element s vs (x - first) ≡ s.v x
  pub u_lent : (source_field s).noise_values.read choices (x - first) ≡ s.u x
  pub w_lent : lent_element s ws (x - first') ≡ s.w x
  pub Δ-lent : Δ ≡ s.delta

-- for any accepted pad call of each end, on one source of field 1, and any index x below n in both windows, the noise end's 16 bytes
-- for x are those of pad 0 or 1 (document 01's messages), as the choice bit says: the byte lent for x, which by `u_lent` is u at x
abbrev pub PadsOf : Source → Type 0
PadsOf s =
    (first count : ℕ) (vs choices pads : List ℕ) → (noise_pads first count vs choices pads).number ≡ 0
    → (first' count' : ℕ) (ws Δ pads' : List ℕ) → (scalar_pads first' count' ws Δ pads').number ≡ 0
    → (x : ℕ) → x < s.outputs → InWindow first count x → InWindow first' count' x
    → PadsLent s x first vs choices first' ws Δ
    → pad_at (noise_pads first count vs choices pads).lent.pads first x
    ≡ one_of_two_at (scalar_pads first' count' ws Δ pads').lent.pads first' x (get_or choices (x - first) 0)

-- on one accepted dealing of field 1
abbrev pub Pads : Type 0
Pads = (I : Input) → I.field ≡ 1 → (a b : List ℕ) → (deal I a b).number ≡ 0 → PadsOf (dealt_by I)

-- ---- demand 3, entire

pub record Demand3 : Type 0 where
  pub outputs : Outputs
  pub lists : Lists
  pub pads : Pads
