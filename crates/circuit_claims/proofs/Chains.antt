-- What an accepted step gives, and the accepted steps of a run one after the other. Assumes nothing.
use Prim.Native.Nat.{ℕ, ◌≤◌}
use mathlib.Core.Bool.{true}
use mathlib.Core.Path.{◌≡◌, refl, sym, ap, ◌∙◌}
use borrow.Author.Tests.{eq-eqb, ne_eqb}
use lib.Dec.{eqb}
use lib.ListN.{length, get_or, drop, length-map}
use lib.Seq.{take_at}
use Rattle.circuit.specs.Content.{Circuit}
use Rattle.circuit.specs.Value.{at_wires}
use Rattle.number.proofs.Places.{choose_yes, choose_no}
use Rattle.circuit_claims.proofs.CircuitCalls.{either_way, CircuitCall, CallLaws, Had}
use Rattle.circuit_claims.specs.Runs.{written_by}
use Rattle.circuit_run.proofs.Numbers.{far-bits}
use Rattle.circuit_run.specs.Step.{StepLent, StepOutcome, step_outcome, state_admitted, step_tests, state_after, masked_first, masked_second, with_outputs, accepted_step, refused_step, step}
use Rattle.circuit_run.specs.declared.StepState.{StepState}

-- ---- an accepted step's outcome

module _ (c : Circuit) (l : StepLent) (r : StepState) where
  abbrev sending : StepOutcome
  sending = step_outcome 0 0 (masked_first c l.triples r.wires r.gate) (masked_second c l.triples r.wires r.gate) r l

  abbrev finishing : StepOutcome
  finishing = step_outcome 0 (length c.outputs) 0 0 r (with_outputs c l r)

  pub accepted-number : (accepted_step c l r).number ≡ 0
  unfolding accepted_step
  accepted-number = either_way (eqb r.phase 1) (λ o. o.number) sending finishing refl refl

  pub accepted-state : (accepted_step c l r).state ≡ r
  unfolding accepted_step
  accepted-state = either_way (eqb r.phase 1) (λ o. o.state) sending finishing refl refl

  pub accepted-waits : r.phase ≡ 1 → accepted_step c l r ≡ sending
  unfolding accepted_step
  accepted-waits e = choose_yes {A = StepOutcome} _ finishing (eq-eqb r.phase 1 e)

  pub accepted-ends : (r.phase ≡ 1 → ⊥) → accepted_step c l r ≡ finishing
  unfolding accepted_step
  accepted-ends n = choose_no {A = StepOutcome} sending _ (ne_eqb r.phase 1 n)

  -- a finished step wrote the shares of the output wires
  pub ends-written : (r.phase ≡ 1 → ⊥) → written_by (accepted_step c l r) ≡ at_wires r.wires c.outputs
  unfolding with_outputs
  ends-written n =
      ap written_by (accepted-ends n)
      ∙ take_at (at_wires r.wires c.outputs) (drop (length c.outputs) l.output) (length c.outputs) (length-map c.outputs _)

-- ---- a step as a call on a circuit

abbrev pub steps : CircuitCall StepLent StepState StepOutcome
steps =
    record {
      call = step;
      number = λ o. o.number;
      state = λ o. o.state;
      circuit = λ l. l.circuit;
      tests = step_tests;
      refusal = refused_step;
      acceptance = λ c l s. accepted_step c l (state_after c l s);
    }

pub step_laws : CallLaws steps
unfolding step
step_laws =
    record {
      is = λ l s. refl;
      all-numbered = λ c l s. refl;
      refused-number = λ l s n. refl;
      refused-state = λ l s n. refl;
      accepted-number = λ c l s. accepted-number c l (state_after c l s);
    }

-- what an accepted step had
abbrev pub Took : Circuit → StepLent → StepState → Type 0
Took c l s = Had steps c l s

module _ {c : Circuit} {l : StepLent} {s : StepState} (t : Took c l s) where
  pub share-bits : (k : ℕ) → get_or l.shares k 0 ≤ 1
  share-bits = search t.met.all

  pub triple-bits : (k : ℕ) → get_or l.triples k 0 ≤ 1
  triple-bits = search t.met.all

  pub far_met : s.phase ≡ 1 → (l.far_first ≤ 1) × (l.far_second ≤ 1)
  far_met e = far-bits (eqb s.phase 1) l.far_first l.far_second (search t.met.all) (eq-eqb s.phase 1 e)

  pub state_met : state_admitted c s.phase s.gate ≡ true
  state_met = search t.met.all

  -- the state that it left, and what it gave by that state
  pub took_state : (step l s).state ≡ state_after c l s
  took_state = ap (λ (o : StepOutcome). o.state) t.is ∙ accepted-state c l (state_after c l s)

  pub took_gave : step l s ≡ accepted_step c l (step l s).state
  took_gave = t.is ∙ ap (accepted_step c l) (sym took_state)
