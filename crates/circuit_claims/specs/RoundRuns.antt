-- Runs in rounds (circuits in rounds): a list of rounds of one end, each on the state that the round before left, a fresh one first.
-- Refused rounds may stand anywhere among them.
use Rattle.std.specs.Prelude.{ℕ, ◌+◌, ◌<◌, true, List, ◌≡◌, length, get_or, take, replicate}
use Rattle.answer.specs.Numbers.{accepted}
use Rattle.circuit.specs.Admitted.{most_wires}
use Rattle.circuit.specs.Content.{Circuit}
use Rattle.circuit_run.specs.Round.{RoundLent, RoundOutcome, waits, is_known, state_with, round}
use Rattle.circuit_run.specs.declared.RoundState.{RoundState}
use Rattle.circuit_claims.specs.Calls.{CallMade, accepted_calls, IsCall}

-- a fresh state is all zero
unfoldable pub fresh_state : RoundState
fresh_state = state_with (replicate most_wires 0)

-- a round: what it got, and what it gave
abbrev pub RoundMade : Type 0
RoundMade = CallMade RoundLent RoundOutcome

-- the accepted rounds of a run
abbrev pub rounds_of : List RoundLent → List RoundMade
rounds_of calls = accepted_calls round (λ o. o.number) (λ o. o.state) fresh_state calls

-- m is accepted round k, from 0
abbrev pub IsRound : List RoundMade → ℕ → RoundMade → Type 0
IsRound made k m = IsCall made k m

-- the outputs that a round wrote, and the bits to send
abbrev pub outputs_by : RoundOutcome → List ℕ
outputs_by o = take o.written o.lent.output

abbrev pub bits_by : RoundOutcome → List ℕ
bits_by o = take o.bits_written o.lent.bits

-- a run is finished by an accepted round that writes no bits; a refused one writes none either, and finishes nothing
abbrev pub Finished : RoundOutcome → Type 0
Finished o = (o.number ≡ accepted) × (o.bits_written ≡ 0)

-- a wire of the circuit; its byte in a state; its share is known; it waits for the far bits
abbrev pub IsWire : Circuit → ℕ → Type 0
IsWire c w = w < c.inputs + length c.gates

abbrev pub byte_of : RoundState → ℕ → ℕ
byte_of s w = get_or s.wires w 0

abbrev pub Known : RoundState → ℕ → Type 0
Known s w = is_known (byte_of s w) ≡ true

abbrev pub Waits : RoundState → ℕ → Type 0
Waits s w = waits (byte_of s w) ≡ true
