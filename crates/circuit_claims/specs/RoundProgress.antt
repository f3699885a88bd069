-- Progress of a run in rounds (circuits in rounds), whatever role, shares, triples and far bits its rounds get.
use Rattle.std.specs.Prelude.{ℕ, suc, ◌+◌, ◌-◌, ◌*◌, ◌≤◌, Bool, true, ◌&&◌, List, ◌↔◌, ◌≡◌, leb, length, get_or}
use Rattle.answer.specs.Numbers.{accepted}
use Rattle.circuit.specs.Content.{Circuit, is_and}
use Rattle.circuit.specs.Levels.{level_of, round_count, ands_at_level}
use Rattle.circuit.specs.Reading.{read_circuit}
use Rattle.circuit_run.specs.Round.{RoundLent, RoundOutcome, refused_round, round}
use Rattle.circuit_run.specs.declared.RoundState.{RoundState}
use Rattle.circuit_run.specs.Step.{gate_at}
use Rattle.number.specs.Reading.{Whole}
use Rattle.circuit_claims.specs.RoundRuns.{fresh_state, RoundMade, rounds_of, IsRound, outputs_by, bits_by, Finished, IsWire, byte_of, Known, Waits}

-- each of these rounds got this circuit
abbrev pub RoundsOn : List ℕ → List RoundMade → Type 0
RoundsOn circuit made = (k : ℕ) (m : RoundMade) → IsRound made k m → m.got.circuit ≡ circuit

-- a wire is an AND's
abbrev pub is_and_wire : Circuit → ℕ → Bool
is_and_wire c w = leb c.inputs w && is_and (gate_at c (w - c.inputs))

-- what a round wrote: bits to send and no outputs, or the outputs and no bits; each byte 0 or 1
pub record Writes (c : Circuit) (o : RoundOutcome) : Type 0 where
  pub unfinished : (Finished o → ⊥) → o.written ≡ 0
  pub finished : Finished o → o.written ≡ length c.outputs
  pub bits-length : length (bits_by o) ≡ o.bits_written
  pub outputs-length : length (outputs_by o) ≡ o.written
  pub bits : (i : ℕ) → get_or (bits_by o) i 0 ≤ 1
  pub outputs : (i : ℕ) → get_or (outputs_by o) i 0 ≤ 1

-- what an accepted round on any state does: known wires stay, every AND that waits becomes known, no bits are written exactly if all
-- wires of the circuit are then known, and as many bytes are written as the next round gets
pub record Moves (c : Circuit) (s : RoundState) (o : RoundOutcome) : Type 0 where
  pub keeps : (w : ℕ) → Known s w → byte_of o.state w ≡ byte_of s w
  pub gives : (i : ℕ) → is_and (gate_at c i) ≡ true → Waits s (c.inputs + i) → Known o.state (c.inputs + i)
  pub ends : Finished o ↔ ((w : ℕ) → IsWire c w → Known o.state w)
  pub next : (l : RoundLent) → read_circuit l.circuit ≡ Whole c → (round l o.state).number ≡ accepted → length l.far ≡ o.bits_written
  pub writes : Writes c o

-- where a run stands after accepted round k: a wire is known exactly if its level is at most k and waits exactly if it is an AND of
-- level k + 1; bits were written for the ANDs of level k + 1, two each; finished exactly if the circuit's rounds are made
pub record StandsAt (c : Circuit) (k : ℕ) (o : RoundOutcome) : Type 0 where
  pub known : (w : ℕ) → IsWire c w → Known o.state w ↔ level_of c w ≤ k
  pub waits : (w : ℕ) → IsWire c w → Waits o.state w ↔ ((is_and_wire c w ≡ true) × (level_of c w ≡ suc k))
  pub written : o.bits_written ≡ 2 * ands_at_level c (suc k)
  pub finished : Finished o ↔ round_count c ≤ suc k

pub record RoundProgress : Type 0 where
  -- a refused round changes nothing, and gives zeros beside its number
  pub refused : (l : RoundLent) (s : RoundState) → ((round l s).number ≡ accepted → ⊥) → round l s ≡ refused_round l s (round l s).number
  -- so it finishes no run, whatever it wrote
  pub refused-unfinished : (l : RoundLent) (s : RoundState) → ((round l s).number ≡ accepted → ⊥) → Finished (round l s) → ⊥
  -- an accepted round, on any state
  pub moves : (c : Circuit) (l : RoundLent) (s : RoundState) → read_circuit l.circuit ≡ Whole c → (round l s).number ≡ accepted → Moves c s (round l s)
  -- the first round gets no far bits
  pub first_round : (l : RoundLent) → (round l fresh_state).number ≡ accepted → length l.far ≡ 0
  -- a run from the fresh state, while the circuit stays
  pub stands : (circuit : List ℕ) (c : Circuit) → read_circuit circuit ≡ Whole c → (calls : List RoundLent) → RoundsOn circuit (rounds_of calls)
      → (k : ℕ) (m : RoundMade) → IsRound (rounds_of calls) k m → StandsAt c k m.gave
  -- so how many bytes round k writes is known in advance: it is the same in any two runs of the circuit
  pub in_advance : (circuit : List ℕ) (c : Circuit) → read_circuit circuit ≡ Whole c → (calls calls' : List RoundLent)
      → RoundsOn circuit (rounds_of calls) → RoundsOn circuit (rounds_of calls')
      → (k : ℕ) (m m' : RoundMade) → IsRound (rounds_of calls) k m → IsRound (rounds_of calls') k m'
      → (m.gave.bits_written ≡ m'.gave.bits_written) × (m.gave.written ≡ m'.gave.written)
  -- a finished run gives its outputs again, and its state stays
  pub again : (l l' : RoundLent) (s : RoundState) → l'.circuit ≡ l.circuit → (round l s).number ≡ accepted → Finished (round l s)
      → (round l' (round l s).state).number ≡ accepted
      → ((round l' (round l s).state).state ≡ (round l s).state) × Finished (round l' (round l s).state)
      × (outputs_by (round l' (round l s).state) ≡ outputs_by (round l s))
