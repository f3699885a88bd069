-- Each return of `round_run` gives what the definition says there. Assumes nothing.
use Prim.Native.Nat.{ℕ, ◌+◌}
use mathlib.Core.Bool.{false}
use mathlib.Core.List.{List, [], ◌∷◌, ◌++◌}
use mathlib.Core.Path.{◌≡◌, refl, sym, ap, ◌∙◌, subst}
use borrow.Author.Tests.{eq-eqb, ne_eqb}
use native.Mathlib.Omega.{arith}
use lib.Dec.{eqb}
use lib.ListN.{length, take, drop}
use lib.Seq.{take_at, drop_at, drop-drop}
use Rattle.answer.proofs.Answers.{refused-with, accepted_with}
use Rattle.answer.proofs.Faults.{admitted_by}
use Rattle.answer.specs.Outcome.{answered}
use Rattle.answer.specs.Tests.{first_fault}
use Rattle.circuit.specs.Answer.{content, HasLayout}
use Rattle.circuit.specs.Content.{Circuit}
use Rattle.circuit.specs.Reading.{read_circuit}
use Rattle.circuit.specs.Value.{over_gates, at_wires}
use Rattle.circuit.specs.declared.Layout.{Layout}
use Rattle.number.proofs.Places.{choose_yes, choose_no}
use Rattle.number.proofs.Records.{read-refused, read_whole}
use Rattle.number.specs.Reading.{Refused}
use Rattle.circuit_run.proofs.RoundGates.{gates-same}
use Rattle.circuit_run.proofs.Inputs.{inputs-length}
use Rattle.circuit_run.specs.Inner.RoundPasses.{Passes, passed_on, waiting_by, Tested, accepted_on, rounded_with}
use Rattle.circuit_run.specs.Inner.RoundTests.{asked_tests}
use Rattle.circuit_run.specs.Round.{RoundLent, round_with, RoundOutcome, round_outcome, rounded, shares_in, state_with, waiting, waiting_in, round_tests, input_bytes, gate_byte, wires_after, bits_to_send, with_bits, with_outputs, accepted_round, refused_round, round}
use Rattle.circuit_run.specs.declared.RoundState.{RoundState}
use Rattle.circuit_run.specs.declared.Rounded.{Rounded}

-- ---- a round that has passed every test

empty : (l : List ℕ) → length l ≡ 0 → l ≡ []
empty [] e = refl
empty (x ∷ l) e = absurd (omega arith)

-- how many gates wait, by the circuit and by its layout
counted_is : {s : List ℕ} {f : Layout} → HasLayout s f → (bytes : List ℕ) {waits : ℕ} → waits ≡ waiting_by f bytes → waits ≡ waiting_in (content s) bytes
counted_is {s} {f} o bytes counted =
    counted ∙ ap (λ (k : ℕ). waiting (take k (drop f.inputs bytes))) o.gates
    ∙ ap (λ (k : ℕ). waiting (take (length (content s).gates) (drop k bytes))) o.inputs

module _ {s : List ℕ} {f : Layout} {shares triples : List ℕ} (output : List ℕ) {far : List ℕ} (bits : List ℕ) {before : List ℕ}
    (o : HasLayout s f) (t : Tested f shares triples (length output) far (length bits) before) where
  abbrev c : Circuit
  c = content s

  module _ {taken : List ℕ} (e : taken ≡ input_bytes shares before ++ drop (length shares) before) where
    size : length (input_bytes shares before) ≡ f.inputs
    size = inputs-length shares before ∙ t.inputs

    layout : take f.inputs taken ≡ input_bytes shares before
    layout = ap (take f.inputs) e ∙ take_at (input_bytes shares before) (drop (length shares) before) f.inputs size

    back : drop f.inputs taken ≡ drop f.inputs before
    back =
        ap (drop f.inputs) e ∙ drop_at (input_bytes shares before) (drop (length shares) before) f.inputs size
        ∙ ap (λ (n : ℕ). drop n before) t.inputs

    same : drop c.inputs taken ≡ drop c.inputs before
    same = subst (λ (n : ℕ). drop n taken ≡ drop n before) o.inputs back

    module _ {role q : ℕ} {bits' wires : List ℕ} (p : Passes s f role triples far bits taken q bits' wires) where
      abbrev l : RoundLent
      l = round_with role s shares triples output far bits

      wires_are : wires ≡ wires_after c l before
      unfolding wires_after
      wires_are =
          let n : f.inputs + f.gates ≡ c.inputs + length c.gates = omega (arith, o.inputs, o.gates) in
          let make = gate_byte c (passed_on role s triples far) taken in
          let rest : drop (f.inputs + f.gates) taken ≡ drop (f.inputs + f.gates) before =
          sym (drop-drop f.gates f.inputs taken) ∙ ap (drop f.gates) back ∙ drop-drop f.gates f.inputs before in
          p.bytes
          ∙ ap (λ (y : List ℕ). over_gates make c.gates y ++ drop (f.inputs + f.gates) taken) layout
          ∙ ap (λ (y : List ℕ). y ++ drop (f.inputs + f.gates) taken)
          (gates-same c role s shares triples output far bits before taken same c.gates (input_bytes shares before) (omega (arith, size, o.inputs)))
          ∙ ap (λ (y : List ℕ). over_gates (gate_byte c l before) c.gates (input_bytes shares before) ++ y)
          (rest ∙ ap (λ (k : ℕ). drop k before) n)

      pub round-finishes : q ≡ 0 → {x : List ℕ} → x ≡ at_wires (shares_in wires) (content s).outputs ++ drop f.outputs output
          → round_outcome 0 f.outputs 0 (state_with wires) (round_with role s shares triples x far bits')
          ≡ accepted_on (content s) (round_with role s shares triples output far bits) before
      unfolding accepted_on accepted_round with_outputs
      round-finishes none {x} w =
          let kept : bits' ≡ bits =
          p.sent ∙ ap (λ (y : List ℕ). y ++ drop q bits) (empty (bits_to_send c triples wires) (sym p.counted ∙ none)) ∙ ap (λ (n : ℕ). drop n bits) none in
          let g : round_with role s shares triples x far bits' ≡ with_outputs c l wires =
          ap (λ (y : List ℕ). round_with role s shares triples x far y) kept
          ∙ ap (λ (y : List ℕ). round_with role s shares triples y far bits)
          (w ∙ ap (λ (n : ℕ). at_wires (shares_in wires) c.outputs ++ drop n output) o.outputs) in
          ap (λ (y : RoundLent). round_outcome 0 f.outputs 0 (state_with wires) y) g
          ∙ ap (λ (n : ℕ). round_outcome 0 n 0 (state_with wires) (with_outputs c l wires)) o.outputs
          ∙ sym (choose_yes {A = RoundOutcome} (round_outcome 0 (length c.outputs) 0 (state_with wires) (with_outputs c l wires)) _
          (eq-eqb (waiting_in c wires) 0 (omega (arith, p.waited))))
          ∙ ap (accepted_round c l) wires_are

      pub round-opens : (q ≡ 0 → ⊥)
          → round_outcome 0 0 q (state_with wires) (round_with role s shares triples output far bits')
          ≡ accepted_on (content s) (round_with role s shares triples output far bits) before
      unfolding accepted_on accepted_round with_bits
      round-opens some =
          let e₁ = p.counted in
          let g : round_with role s shares triples output far bits' ≡ with_bits c l wires =
          ap (λ (y : List ℕ). round_with role s shares triples output far y)
          (p.sent ∙ ap (λ (n : ℕ). bits_to_send c triples wires ++ drop n bits) e₁) in
          ap (λ (y : RoundLent). round_outcome 0 0 q (state_with wires) y) g
          ∙ ap (λ (n : ℕ). round_outcome 0 0 n (state_with wires) (with_bits c l wires)) e₁
          ∙ sym (choose_no {A = RoundOutcome} _ (round_outcome 0 0 (length (bits_to_send c triples wires)) (state_with wires) (with_bits c l wires))
          (ne_eqb (waiting_in c wires) 0 (λ z. some (omega (arith, p.waited)))))
          ∙ ap (accepted_round c l) wires_are

-- ---- the call

-- a circuit that is refused
pub circuit-refused : (role : ℕ) {s : List ℕ} (shares triples output far bits : List ℕ) {state : RoundState} {k : ℕ} {answer : Rounded}
    → read_circuit s ≡ Refused k → answer ≡ rounded_with k 0 0 state
    → rounded answer (round_with role s shares triples output far bits) ≡ round (round_with role s shares triples output far bits) state
unfolding round
circuit-refused role {s} shares triples output far bits {state} {k} {answer} h w =
    let l : RoundLent = round_with role s shares triples output far bits in
    read-refused (read_circuit s) (refused_round l state) _ (rounded answer l) k h (ap (λ (x : Rounded). rounded x l) w)

-- the tests together
pub tests_passed : (f : Layout) (role : ℕ) (shares triples : List ℕ) (room : ℕ) (far : List ℕ) (space : ℕ) (before : List ℕ) {waits : ℕ}
    → waits ≡ waiting_by f before → 0 ≡ first_fault (asked_tests f waits role shares triples far room space) → length before ≡ 4096
    → Tested f shares triples room far space before
tests_passed f role shares triples room far space before {waits} counted number long =
    let m = admitted_by (asked_tests f waits role shares triples far room space) 0 refl number refl in
    record {
      inputs = omega (arith, m.all);
      places = omega (arith, m.all, counted);
      outputs = omega (arith, m.all);
      bits = omega (arith, m.all);
      share_bits = search m.all;
      triple_bits = search m.all;
      far_bits = search m.all;
      enough = omega (arith, m.all);
      long = long;
    }

module _ (role : ℕ) {s : List ℕ} (shares triples output far bits : List ℕ) (state : RoundState) {f : Layout} (o : HasLayout s f) {n : ℕ}
    (number : n ≡ first_fault (asked_tests f (waiting_by f state.wires) role shares triples far (length output) (length bits))) where
  abbrev lent : RoundLent
  lent = round_with role s shares triples output far bits

  number_is : n ≡ first_fault (round_tests (content s) lent state.wires)
  number_is = number ∙ rw (counted_is o state.wires refl, o.inputs, o.outputs, o.ands)

  round_by_lem : (x : RoundOutcome)
      → x ≡ answered (round_tests (content s) lent state.wires) (refused_round lent state) (accepted_on (content s) lent state.wires) → x ≡ round lent state
  unfolding round accepted_on
  round_by_lem x e = read_whole (read_circuit s) (refused_round lent state) _ x (content s) o.whole e

  pub round-refused : {answer : Rounded} → eqb n 0 ≡ false → answer ≡ rounded_with n 0 0 state
      → rounded answer (round_with role s shares triples output far bits) ≡ round (round_with role s shares triples output far bits) state
  round-refused h w = round_by_lem _ (refused-with _ _ _ _ n number_is h (ap (λ (x : Rounded). rounded x lent) w))

  pub round-accepted : n ≡ 0 → {written bits_written : ℕ} {wires : List ℕ} {after : RoundLent}
      → round_outcome 0 written bits_written (state_with wires) after ≡ accepted_on (content s) (round_with role s shares triples output far bits) state.wires
      → round_outcome 0 written bits_written (state_with wires) after ≡ round (round_with role s shares triples output far bits) state
  round-accepted none w = round_by_lem _ (accepted_with _ _ _ _ n number_is none w)
