-- Each return of `step_run` gives what the definition says there. Assumes nothing.
use Prim.Native.Nat.{ℕ, ◌+◌, ◌*◌, ◌≤◌}
use mathlib.Core.Bool.{Bool, false}
use mathlib.Core.List.{List, ◌++◌}
use mathlib.Core.Path.{◌≡◌, refl, sym, ap, ◌∙◌}
use borrow.Author.Tests.{eq-eqb, ne_eqb}
use native.Mathlib.Omega.{arith}
use lib.Bits.{bit_xor}
use lib.Dec.{eqb}
use lib.ListN.{length, get_or, drop}
use Rattle.answer.proofs.Answers.{refused-with, accepted_with}
use Rattle.answer.specs.Outcome.{answered}
use Rattle.answer.specs.Tests.{first_fault}
use Rattle.circuit.proofs.Ands.{before_few}
use Rattle.circuit.specs.Content.{And, Circuit}
use Rattle.circuit.specs.Answer.{content, HasLayout}
use Rattle.circuit.specs.Reading.{read_circuit}
use Rattle.circuit.specs.Value.{at_wires}
use Rattle.circuit.specs.declared.Layout.{Layout}
use Rattle.number.proofs.Places.{choose_yes, choose_no}
use Rattle.number.proofs.Records.{read-refused, read_whole}
use Rattle.number.specs.Reading.{Refused}
use Rattle.std.specs.Prelude.{Option, Some, None}
use Rattle.circuit_run.proofs.Gates.{gates_of}
use Rattle.circuit_run.specs.Inner.Places.{WaitsAt, RunsAs, Tested, Stops, opened_with, given_and, proceeded, stepped_with, accepted_on}
use Rattle.circuit_run.specs.Inner.StepTests.{asked_tests}
use Rattle.circuit_run.specs.Step.{StepLent, lent_with, StepOutcome, step_outcome, stepped, step_state_with, step_tests, gate_at, first_wire, second_wire, state_admitted, fresh_wires, run_on}
use Rattle.circuit_run.specs.Step.{masked_first, masked_second, waiting_share, with_and, state_after, with_outputs, accepted_step, refused_step, step}
use Rattle.circuit_run.specs.declared.StepState.{StepState}
use Rattle.circuit_run.specs.declared.Stepped.{Stepped}
use Rattle.circuit_run.specs.declared.places.Asked.{Asked}
use Rattle.circuit_run.specs.declared.places.Run.{Run}
use Rattle.circuit_run.specs.declared.places.Run.TheVariants.{Going, Finished}
use Rattle.circuit_run.specs.declared.places.Spot.{Spot}

abbrev pub asked_with : ℕ → Bool → ℕ → ℕ → Asked
asked_with role waits first second = record { role = role; waits = waits; far_first = first; far_second = second }

-- a circuit that is refused
pub circuit-refused : (role : ℕ) {s : List ℕ} (shares triples output : List ℕ) (far1 far2 : ℕ) {state : StepState} {k : ℕ} {answer : Stepped}
    → read_circuit s ≡ Refused k → answer ≡ stepped_with k 0 0 0 state
    → stepped answer (lent_with role s shares triples output far1 far2) ≡ step (lent_with role s shares triples output far1 far2) state
unfolding step
circuit-refused role {s} shares triples output far1 far2 {state} {k} {answer} h w =
    let l : StepLent = lent_with role s shares triples output far1 far2 in
    read-refused (read_circuit s) (refused_step l state) _ (stepped answer l) k h (ap (λ (x : Stepped). stepped x l) w)

-- ---- a step that has passed every test

-- the triple of an AND that a run waits at
module _ {s : List ℕ} {f : Layout} {run : Run} {shares triples : List ℕ} {space phase gate : ℕ} (t : Tested s f run shares triples space phase gate)
    {r : Spot} (w : WaitsAt s f r) where
  few : r.ands ≤ 4096
  few = omega (arith, w.below, t.layout.most, w.ands, before_few (gates_of s) r.gate (omega (arith, w.below, t.layout.gates)))

module _ {s : List ℕ} {f : Layout} (a : Asked) {run : Run} {shares triples : List ℕ} (state : StepState) (output : List ℕ)
    (t : Tested s f run shares triples (length output) state.phase state.gate) where
  abbrev c : Circuit
  c = content s

  abbrev l : StepLent
  l = lent_with a.role s shares triples output a.far_first a.far_second

  abbrev wrote : List ℕ → StepLent
  wrote x = lent_with a.role s shares triples x a.far_first a.far_second

  finished_is : (after : StepState) {x : List ℕ} → state_after c l state ≡ after → (after.phase ≡ 1 → ⊥)
      → x ≡ at_wires after.wires c.outputs ++ drop f.outputs output
      → stepped (stepped_with 0 f.outputs 0 0 after) (wrote x) ≡ accepted_on c l state
  unfolding accepted_on accepted_step with_outputs
  finished_is after {x} e n1 w =
      let g : wrote x ≡ with_outputs c l after =
      ap wrote (w ∙ ap (λ (m : ℕ). at_wires after.wires c.outputs ++ drop m output) t.layout.outputs) in
      ap (λ (y : StepLent). step_outcome 0 f.outputs 0 0 after y) g
      ∙ ap (λ (m : ℕ). step_outcome 0 m 0 0 after (with_outputs c l after)) t.layout.outputs
      ∙ sym (choose_no {A = StepOutcome} _ (step_outcome 0 (length c.outputs) 0 0 after (with_outputs c l after)) (ne_eqb after.phase 1 n1))
      ∙ ap (accepted_step c l) (sym e)

  pub step-again : state.phase ≡ 2 → {x : List ℕ} {answer : Stepped} → answer ≡ stepped_with 0 f.outputs 0 0 state
      → x ≡ at_wires state.wires (content s).outputs ++ drop f.outputs output
      → stepped answer (lent_with a.role s shares triples x a.far_first a.far_second)
      ≡ accepted_on (content s) (lent_with a.role s shares triples output a.far_first a.far_second) state
  unfolding state_after
  step-again two {x} g w =
      ap (λ (r : Stepped). stepped r (wrote x)) g
      ∙ finished_is state
      (choose_no {A = StepState} _ _ (ne_eqb state.phase 0 (λ e. omega arith)) ∙ choose_no {A = StepState} _ state (ne_eqb state.phase 1 (λ e. omega arith)))
      (λ e. omega arith) w

  -- the AND of a run that waits gets its share
  and_is : {r : Spot} → r.gate ≡ state.gate → WaitsAt s f r → given_and a r (f.inputs + r.gate) triples state.wires ≡ with_and c l state
  unfolding given_and opened_with with_and waiting_share masked_first masked_second
  and_is {r} n w =
      let g : gate_at c state.gate ≡ And r.first_wire r.second_wire = ap (gate_at c) (sym n) ∙ w.gate in
      rw (t.layout.inputs, w.ands, n, g)

  proceeded_is : (waiting : Option Spot) → RunsAs s f state.phase state.gate (Going waiting)
      → proceeded s f a waiting shares triples state.wires ≡ state_after c l state
  unfolding state_after
  proceeded_is None zero =
      ap (λ (i : ℕ). run_on a.role i (gates_of s) 0 (fresh_wires shares)) t.layout.inputs
      ∙ sym (choose_yes {A = StepState} _ _ (eq-eqb state.phase 0 zero))
  proceeded_is (Some r) h =
      ap (λ (w : List ℕ). run_on a.role f.inputs (drop (r.gate + 1) (gates_of s)) (r.gate + 1) w) (and_is h.1.0 h.1.1)
      ∙ ap (λ (g : ℕ). run_on a.role f.inputs (drop (g + 1) (gates_of s)) (g + 1) (with_and c l state)) h.1.0
      ∙ ap (λ (i : ℕ). run_on a.role i (drop (state.gate + 1) (gates_of s)) (state.gate + 1) (with_and c l state)) t.layout.inputs
      ∙ sym (choose_no {A = StepState} _ _ (ne_eqb state.phase 0 (λ e. omega (arith, h.0))) ∙ choose_yes {A = StepState} _ _ (eq-eqb state.phase 1 h.0))

  module _ (waiting : Option Spot) (runs : RunsAs s f state.phase state.gate (Going waiting)) {wires : List ℕ} where
    pub step_waits : {r : Spot} → Stops s f (proceeded s f a waiting shares triples state.wires) (Some r) wires
        → stepped
        (stepped_with 0 0
        (bit_xor (get_or wires r.first_wire 0) (get_or triples (r.ands * 3) 0))
        (bit_xor (get_or wires r.second_wire 0) (get_or triples (r.ands * 3 + 1) 0))
        (step_state_with 1 r.gate wires))
        (lent_with a.role s shares triples output a.far_first a.far_second)
        ≡ accepted_on (content s) (lent_with a.role s shares triples output a.far_first a.far_second) state
    unfolding accepted_on accepted_step masked_first masked_second
    step_waits {r} stops =
        let after : StepState = step_state_with 1 r.gate wires in
        let e : state_after c l state ≡ after = sym (proceeded_is waiting runs) ∙ stops.run in
        let w : WaitsAt s f r = stops.at in
        rw (sym (ap first_wire w.gate), sym (ap second_wire w.gate), w.ands) (ap (accepted_step c l) (sym e))

    pub step-finishes : Stops s f (proceeded s f a waiting shares triples state.wires) None wires
        → {x : List ℕ} {answer : Stepped} → answer ≡ stepped_with 0 f.outputs 0 0 (step_state_with 2 f.gates wires)
        → x ≡ at_wires wires (content s).outputs ++ drop f.outputs output
        → stepped answer (lent_with a.role s shares triples x a.far_first a.far_second)
        ≡ accepted_on (content s) (lent_with a.role s shares triples output a.far_first a.far_second) state
    step-finishes stops {x} g w =
        ap (λ (r : Stepped). stepped r (wrote x)) g
        ∙ finished_is (step_state_with 2 f.gates wires) (sym (proceeded_is waiting runs) ∙ stops.run) (λ e. omega arith) w

-- a run that does not go on is finished
pub finished-phase : (s : List ℕ) (f : Layout) (phase gate : ℕ) (run : Run) → ((w : Option Spot) → run ≡ Going w → ⊥) → RunsAs s f phase gate run → phase ≡ 2
finished-phase s f phase gate (Going w) h e = absurd (h w refl)
finished-phase s f phase gate Finished h e = e

-- ---- the call

module _ (role : ℕ) {s : List ℕ} (shares triples output : List ℕ) (far1 far2 : ℕ) (state : StepState) {f : Layout} (o : HasLayout s f) {n : ℕ}
    (number : n ≡ first_fault (asked_tests f (state_admitted (content s) state.phase state.gate) (asked_with role (eqb state.phase 1) far1 far2) shares triples (length output))) where
  abbrev lent : StepLent
  lent = lent_with role s shares triples output far1 far2

  number_is : n ≡ first_fault (step_tests (content s) lent state)
  number_is = number ∙ rw (o.inputs, o.outputs, o.ands)

  step_by : (x : StepOutcome) → x ≡ answered (step_tests (content s) lent state) (refused_step lent state) (accepted_on (content s) lent state)
      → x ≡ step lent state
  unfolding step accepted_on
  step_by x e = read_whole (read_circuit s) (refused_step lent state) _ x (content s) o.whole e

  pub step-refused : {answer : Stepped} → eqb n 0 ≡ false → answer ≡ stepped_with n 0 0 0 state
      → stepped answer (lent_with role s shares triples output far1 far2) ≡ step (lent_with role s shares triples output far1 far2) state
  step-refused h w = step_by _ (refused-with _ _ _ _ n number_is h (ap (λ (x : Stepped). stepped x lent) w))

  pub step-accepted : n ≡ 0 → {answer : Stepped} {after : StepLent}
      → stepped answer after ≡ accepted_on (content s) (lent_with role s shares triples output far1 far2) state
      → stepped answer after ≡ step (lent_with role s shares triples output far1 far2) state
  step-accepted none w = step_by _ (accepted_with _ _ _ _ n number_is none w)
