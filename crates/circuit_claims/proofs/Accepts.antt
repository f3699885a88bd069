-- Which steps are accepted, and that a run can go on. Assumes nothing.
use Prim.Native.Nat.{ℕ, ◌+◌, ◌≤◌}
use mathlib.Core.Bool.{true}
use mathlib.Core.Path.{◌≡◌, sym, ap, ◌∙◌, subst}
use borrow.Author.Tests.{eq-eqb, eqb-true}
use native.Mathlib.Omega.{arith}
use lib.Dec.{eqb}
use lib.ListN.{length}
use Rattle.circuit.specs.Content.{Circuit, is_and}
use Rattle.circuit.specs.Reading.{read_circuit}
use Rattle.circuit_run.proofs.Numbers.{far-bits, bits-far, state-phase, state-and, state-known}
use Rattle.circuit_run.specs.Step.{StepLent, gate_at, state_after, step}
use Rattle.circuit_run.specs.declared.StepState.{StepState}
use Rattle.number.proofs.Places.{either}
use Rattle.circuit_claims.proofs.AndGates.{and-inside}
use Rattle.circuit_claims.proofs.Chains.{step_laws, Took, state_met, took_state}
use Rattle.circuit_claims.proofs.CircuitCalls.{met_if, had}
use Rattle.circuit_claims.proofs.Progresses.{and-gate}
use Rattle.circuit_claims.proofs.Reaches.{Standing, waiting, finished, standing, run-fresh, run-waits, run_ends}
use Rattle.circuit_claims.specs.Acceptance.{StepAcceptance}

-- a state that an accepted step left is fresh no more, and waits at an AND or has finished
left-admitted : {c : Circuit} {l : StepLent} {s : StepState} → Took c l s
    → ((step l s).state.phase ≤ 2) × ((step l s).state.phase ≡ 1 → is_and (gate_at c (step l s).state.gate) ≡ true)
left-admitted {c} {l} {s} t =
    let p = state-phase c s.phase s.gate (state_met t) in
    either s.phase 0 (λ e. moved (run-fresh c l s e) (of (standing l.role c 0 _ (omega arith))))
    (λ n. either s.phase 1 (λ e. moved (run-waits c l s e) (of (standing l.role c (s.gate + 1) _ (omega (arith, and-inside c s.gate (and-gate e t))))))
    (λ m. let two : s.phase ≡ 2 = omega arith in moved (run_ends c l s two) (omega arith, λ e. absurd (m e))))
  where
    moved : {r : StepState} → state_after c l s ≡ r → (r.phase ≤ 2) × (r.phase ≡ 1 → is_and (gate_at c r.gate) ≡ true)
        → ((step l s).state.phase ≤ 2) × ((step l s).state.phase ≡ 1 → is_and (gate_at c (step l s).state.gate) ≡ true)
    moved {r} e h = subst (λ (x : StepState). (x.phase ≤ 2) × (x.phase ≡ 1 → is_and (gate_at c x.gate) ≡ true)) (sym (took_state t ∙ e)) h

    of : {i n : ℕ} {r : StepState} → Standing c i n r → (r.phase ≤ 2) × (r.phase ≡ 1 → is_and (gate_at c r.gate) ≡ true)
    of (waiting p i h a e) = (omega arith, λ _. a)
    of (finished p q h) = (omega arith, λ e. absurd (omega arith))

goes_on : (l l' : StepLent) (s : StepState) → (step l s).number ≡ 0 → l'.circuit ≡ l.circuit → l'.role ≡ l.role → l'.shares ≡ l.shares
    → l'.triples ≡ l.triples → length l.output ≤ length l'.output → l'.far_first ≤ 1 → l'.far_second ≤ 1
    → (step l' (step l s).state).number ≡ 0
goes_on l l' s e circuit role shares triples room first second =
    let t = had step_laws l s e in
    let m = t.1.met in
    let left = left-admitted t.1 in
    let wide : length t.0.outputs ≤ length l'.output = omega (arith, m.all) in
    let far = bits-far (eqb (step l s).state.phase 1) l'.far_first l'.far_second (λ w. (first, second)) in
    let known = state-known t.0 (step l s).state.phase (step l s).state.gate left.0 left.1 in
    (met_if step_laws l' (step l s).state (ap read_circuit circuit ∙ t.1.read)).0 (rw (shares, triples, role) (record { all = search depth 12 }))

-- document 02, 9: which steps are accepted
pub acceptance : StepAcceptance
acceptance =
    record {
      accepts = λ c l s f. met_if step_laws l s f;
      far = λ phase first second. (
        λ e one. far-bits (eqb phase 1) first second e (eq-eqb phase 1 one),
        λ h. bits-far (eqb phase 1) first second (λ w. h (eqb-true phase 1 w)),
      );
      state = λ c phase gate. (
        λ e. (state-phase c phase gate e, state-and c phase gate e),
        λ h. state-known c phase gate h.0 h.1,
      );
      goes_on = goes_on;
    }
