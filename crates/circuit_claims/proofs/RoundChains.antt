-- What an accepted round gives, and the accepted rounds of a run one after the other. Assumes nothing.
use Prim.Native.Nat.{ℕ, ◌≤◌}
use mathlib.Core.List.{List}
use mathlib.Core.Path.{◌≡◌, refl, ap, ◌∙◌}
use borrow.Author.Tests.{eq-eqb, ne_eqb}
use lib.Dec.{eqb}
use lib.ListN.{length, get_or}
use Rattle.circuit.specs.Content.{Circuit}
use Rattle.circuit_run.specs.Round.{RoundLent, RoundOutcome, round_outcome, state_with, waiting_in, round_tests}
use Rattle.circuit_run.specs.Round.{wires_after, bits_to_send, with_bits, with_outputs, accepted_round, refused_round, round}
use Rattle.circuit_run.specs.declared.RoundState.{RoundState}
use Rattle.number.proofs.Places.{choose_yes, choose_no}
use Rattle.circuit_claims.proofs.CircuitCalls.{either_way, CircuitCall, CallLaws, Had}

-- ---- an accepted round's outcome

module _ (c : Circuit) (l : RoundLent) (bytes : List ℕ) where
  abbrev finishing : RoundOutcome
  finishing = round_outcome 0 (length c.outputs) 0 (state_with bytes) (with_outputs c l bytes)

  abbrev sending : RoundOutcome
  sending = round_outcome 0 0 (length (bits_to_send c l.triples bytes)) (state_with bytes) (with_bits c l bytes)

  pub accepted-number : (accepted_round c l bytes).number ≡ 0
  unfolding accepted_round
  accepted-number = either_way (eqb (waiting_in c bytes) 0) (λ o. o.number) finishing sending refl refl

  pub accepted-state : (accepted_round c l bytes).state ≡ state_with bytes
  unfolding accepted_round
  accepted-state = either_way (eqb (waiting_in c bytes) 0) (λ o. o.state) finishing sending refl refl

  pub accepted-ends : waiting_in c bytes ≡ 0 → accepted_round c l bytes ≡ finishing
  unfolding accepted_round
  accepted-ends e = choose_yes {A = RoundOutcome} _ sending (eq-eqb (waiting_in c bytes) 0 e)

  pub accepted-waits : (waiting_in c bytes ≡ 0 → ⊥) → accepted_round c l bytes ≡ sending
  unfolding accepted_round
  accepted-waits n = choose_no {A = RoundOutcome} finishing _ (ne_eqb (waiting_in c bytes) 0 n)

-- ---- a round as a call on a circuit

abbrev pub rounds : CircuitCall RoundLent RoundState RoundOutcome
rounds =
    record {
      call = round;
      number = λ o. o.number;
      state = λ o. o.state;
      circuit = λ l. l.circuit;
      tests = λ c l s. round_tests c l s.wires;
      refusal = refused_round;
      acceptance = λ c l s. accepted_round c l (wires_after c l s.wires);
    }

pub round_laws : CallLaws rounds
unfolding round
round_laws =
    record {
      is = λ l s. refl;
      all-numbered = λ c l s. refl;
      refused-number = λ l s n. refl;
      refused-state = λ l s n. refl;
      accepted-number = λ c l s. accepted-number c l (wires_after c l s.wires);
    }

-- what an accepted round had
abbrev pub Took : Circuit → RoundLent → RoundState → Type 0
Took c l s = Had rounds c l s

module _ {c : Circuit} {l : RoundLent} {s : RoundState} (t : Took c l s) where
  pub share-bits : (k : ℕ) → get_or l.shares k 0 ≤ 1
  share-bits = search t.met.all

  pub triple-bits : (k : ℕ) → get_or l.triples k 0 ≤ 1
  triple-bits = search t.met.all

  pub far-bits : (k : ℕ) → get_or l.far k 0 ≤ 1
  far-bits = search t.met.all

  pub one_each : length l.shares ≡ c.inputs
  one_each = search t.met.all

  pub took_state : (round l s).state ≡ state_with (wires_after c l s.wires)
  took_state = ap (λ (o : RoundOutcome). o.state) t.is ∙ accepted-state c l (wires_after c l s.wires)

  pub took_bytes : (round l s).state.wires ≡ wires_after c l s.wires
  took_bytes = ap (λ (r : RoundState). r.wires) took_state
