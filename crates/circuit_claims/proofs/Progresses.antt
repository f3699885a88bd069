-- Progress of a run: where it stands after each accepted step, that its shares are bits, and that far bits count in phase 1 alone.
-- Assumes nothing.
use Prim.Native.Nat.{ℕ, zero, suc, ◌+◌, ◌-◌, ◌≤◌, ◌<◌}
use mathlib.Core.Bool.{true}
use mathlib.Core.List.{List}
use mathlib.Core.Path.{◌≡◌, refl, sym, ap, ◌∙◌, subst}
use borrow.Author.Tests.{ne_eqb}
use native.Mathlib.Omega.{arith}
use lib.ListN.{length, drop}
use Rattle.answer.specs.Outcome.{by_number, answered}
use Rattle.answer.specs.Tests.{Test, first_fault}
use Rattle.circuit.specs.Admitted.{most_wires}
use Rattle.circuit.specs.Content.{Circuit, is_and, ands_in}
use Rattle.circuit.specs.Reading.{read_circuit}
use Rattle.number.proofs.Places.{either}
use Rattle.number.specs.Reading.{Reading, Whole, Refused, after_reading}
use Rattle.circuit_claims.proofs.AndGates.{and-inside, and-after, and_before}
use Rattle.circuit_claims.proofs.Chains.{accepted-state, accepted-waits, accepted-ends, ends-written, step_laws, Took, share-bits, triple-bits, far_met, state_met, took_state, took_gave}
use Rattle.circuit_claims.proofs.CircuitCalls.{had_on, had, refused_is, first-call, next-call, first_had, next_had}
use Rattle.circuit_claims.proofs.Calls.{call_before}
use Rattle.circuit_run.proofs.Numbers.{state-phase, state-and}
use Rattle.circuit_claims.proofs.Reaches.{Standing, waiting, finished, standing, from_start, run-fresh, run-waits, run_ends, WireBits, set-bits, run-bits, zeros_bits, append_bits, outputs-bits}
use Rattle.circuit_claims.specs.Progress.{OnCircuit, GivesBits, with_far, far_lent, Progress}
use Rattle.circuit_claims.specs.Runs.{fresh, StepMade, steps_of, IsStep, written_by}
use Rattle.circuit_run.proofs.Bits.{xor-bit, share-bit}
use Rattle.circuit_run.specs.Step.{StepLent, StepOutcome, gate_at, ands_before, fresh_wires, advance, masked_first, masked_second, waiting_share, with_and, step_tests, state_after, with_outputs, accepted_step, refused_step, step}
use Rattle.circuit_run.specs.declared.StepState.{StepState}

-- ---- where a run stands

-- after an accepted step of a run that waits
module _ {c : Circuit} {l : StepLent} {s : StepState} (one : s.phase ≡ 1) (t : Took c l s) where
  pub and-gate : is_and (gate_at c s.gate) ≡ true
  and-gate = state-and c s.phase s.gate (state_met t) one

  after-and : Standing c (s.gate + 1) (ands_before c s.gate + 1) (step l s).state
  after-and =
      subst (λ (r : StepState). Standing c (s.gate + 1) (ands_before c s.gate + 1) r) (sym (took_state t ∙ run-waits c l s one))
      (subst (λ (n : ℕ). Standing c (s.gate + 1) n (advance l.role c (s.gate + 1) (with_and c l s))) (and-after c s.gate and-gate)
      (standing l.role c (s.gate + 1) (with_and c l s) (omega (arith, and-inside c s.gate and-gate))))

risen : {c : Circuit} {i n : ℕ} {r : StepState} → i ≤ length c.gates → Standing c i n r → i ≤ r.gate
risen h (waiting p l k a e) = l
risen h (finished p q k) = omega arith

passes-gate : (l : StepLent) (s : StepState) → s.phase ≡ 1 → (step l s).number ≡ 0 → s.gate < (step l s).state.gate
passes-gate l s one e =
    let t = had step_laws l s e in
    omega (arith, risen (omega (arith, and-inside t.0 s.gate (and-gate one t.1))) (after-and one t.1))

pub phase-fresh : fresh.phase ≡ 0
unfolding fresh
phase-fresh = refl

-- after the first accepted step
pub first-stands : {c : Circuit} {l : StepLent} → Took c l fresh → Standing c 0 0 (step l fresh).state
unfolding ands_in
first-stands {c} {l} t =
    subst (λ (r : StepState). Standing c 0 0 r) (sym (took_state t ∙ run-fresh c l fresh phase-fresh)) (standing l.role c 0 (fresh_wires l.shares) (omega arith))

-- after one more
pub next-stands : {c : Circuit} {k : ℕ} {l : StepLent} {s : StepState} → Took c l s → Standing c 0 k s → Standing c 0 (suc k) (step l s).state
next-stands {c} {k} {l} {s} t (waiting one i h a n) =
    subst (λ (m : ℕ). Standing c 0 m (step l s).state) {x = ands_before c s.gate + 1} {y = suc k} (omega arith) (from_start (after-and one t))
next-stands {c} {k} {l} {s} t (finished two h n) =
    subst (λ (r : StepState). Standing c 0 (suc k) r) (sym (took_state t ∙ run_ends c l s two)) (finished two h (omega arith))

-- accepted step k of a run, on a circuit that stays
module _ (circuit : List ℕ) (c : Circuit) (read : read_circuit circuit ≡ Whole c) (calls : List StepLent) (stays : OnCircuit circuit (steps_of calls)) where
  pub stands : (k : ℕ) (m : StepMade) → IsStep (steps_of calls) k m → Standing c 0 k m.gave.state
  stands zero m e = let t = first_had step_laws fresh calls circuit read stays e in subst (λ (o : StepOutcome). Standing c 0 0 o.state) (sym t.0) (first-stands t.1)
  stands (suc k) m e =
      let b = call_before k (steps_of calls) e in
      let t = next_had step_laws fresh calls circuit read stays k b.1 e in
      subst (λ (o : StepOutcome). Standing c 0 (suc k) o.state) (sym t.0) (next-stands t.1 (stands k b.0 b.1))

  pub finishes : (k : ℕ) (m : StepMade) → IsStep (steps_of calls) k m
      → (k < ands_in c.gates → m.gave.state.phase ≡ 1) × (ands_in c.gates ≤ k → m.gave.state.phase ≡ 2)
  finishes k m e = of (stands k m e)
    where
      of : {r : StepState} → Standing c 0 k r → (k < ands_in c.gates → r.phase ≡ 1) × (ands_in c.gates ≤ k → r.phase ≡ 2)
      of {r} (waiting p l h a n) = (λ _. p, λ g. absurd (let z = and_before c r.gate a in omega arith))
      of (finished p q h) = (λ g. absurd (omega arith), λ _. p)

-- ---- a finished run

again : (l l' : StepLent) (s : StepState) → l'.circuit ≡ l.circuit → (step l s).number ≡ 0 → (step l s).state.phase ≡ 2 → (step l' (step l s).state).number ≡ 0
    → ((step l' (step l s).state).state ≡ (step l s).state) × (written_by (step l' (step l s).state) ≡ written_by (step l s))
again l l' s same e two f =
    let r : StepState = (step l s).state in
    let t = had step_laws l s e in
    let c : Circuit = t.0 in
    let u : Took c l' r = had_on step_laws l' r (ap read_circuit same ∙ t.1.read) f in
    let n : r.phase ≡ 1 → ⊥ = λ z. omega arith in
    let k : (step l' r).state ≡ r = took_state u ∙ run_ends c l' r two in (
      k,
      ap written_by (took_gave u ∙ ap (accepted_step c l') k) ∙ ends-written c l' r n ∙ sym (ap written_by (took_gave t.1) ∙ ends-written c l r n),
    )

-- ---- bits

gives : (c : Circuit) (l : StepLent) (r : StepState) → WireBits r.wires → WireBits l.triples → GivesBits (accepted_step c l r)
unfolding masked_first masked_second
gives c l r wires triples =
    either r.phase 1
    (λ one.
    subst GivesBits (sym (accepted-waits c l r one))
    (record { first_bit = xor-bit (wires _) (triples _); second-bit = xor-bit (wires _) (triples _); wires = wires; outputs = λ i. omega arith }))
    (λ n.
    record {
      first_bit = subst (λ (o : StepOutcome). o.first_bit ≤ 1) (sym (accepted-ends c l r n)) (omega arith);
      second-bit = subst (λ (o : StepOutcome). o.second_bit ≤ 1) (sym (accepted-ends c l r n)) (omega arith);
      wires = subst (λ (x : StepState). WireBits x.wires) (sym (accepted-state c l r)) wires;
      outputs = subst WireBits (sym (ends-written c l r n)) (outputs-bits r.wires c.outputs wires);
    })

-- the wires after an accepted step
pub step-bits : (c : Circuit) (l : StepLent) (s : StepState) → Took c l s → WireBits s.wires → WireBits (state_after c l s).wires
unfolding fresh_wires with_and waiting_share masked_first masked_second
step-bits c l s t wires =
    either s.phase 0
    (λ e.
    subst (λ (r : StepState). WireBits r.wires) (sym (run-fresh c l s e))
    (run-bits l.role c.inputs c.gates 0 (fresh_wires l.shares) (append_bits l.shares _ (share-bits t) (zeros_bits (most_wires - length l.shares)))))
    (λ n. either s.phase 1
    (λ e.
    let far = far_met t e in
    subst (λ (r : StepState). WireBits r.wires) (sym (run-waits c l s e))
    (run-bits l.role c.inputs (drop (s.gate + 1) c.gates) (s.gate + 1) (with_and c l s)
    (set-bits s.wires (c.inputs + s.gate) (waiting_share c l s) wires
    (share-bit l.role (xor-bit (xor-bit (wires _) (triple-bits t _)) far.0) (xor-bit (xor-bit (wires _) (triple-bits t _)) far.1)
    (triple-bits t _) (triple-bits t _) (triple-bits t _)))))
    (λ o.
    let two : s.phase ≡ 2 = omega (arith, state-phase c s.phase s.gate (state_met t)) in
    subst (λ (r : StepState). WireBits r.wires) (sym (run_ends c l s two)) wires))

fresh-bits : WireBits fresh.wires
unfolding fresh
fresh-bits = zeros_bits most_wires

-- an accepted step on a state of bits gives bits
step_gives : (l : StepLent) (s : StepState) → (step l s).number ≡ 0 → WireBits s.wires → GivesBits (step l s)
step_gives l s e wires =
    let t = had step_laws l s e in
    subst GivesBits (sym t.1.is) (gives t.0 l (state_after t.0 l s) (step-bits t.0 l s t.1 wires) (triple-bits t.1))

run-gives : (calls : List StepLent) (k : ℕ) (m : StepMade) → IsStep (steps_of calls) k m → GivesBits m.gave
run-gives calls zero m e =
    let f = first-call step_laws fresh calls e in
    subst GivesBits (sym f.0) (step_gives m.got fresh f.1 fresh-bits)
run-gives calls (suc k) m e =
    let b = call_before k (steps_of calls) e in
    let f = next-call step_laws fresh calls k b.1 e in
    subst GivesBits (sym f.0) (step_gives m.got b.0.gave.state f.1 (run-gives calls k b.0 b.1).wires)

-- ---- far bits

module _ (l : StepLent) (s : StepState) (n : s.phase ≡ 1 → ⊥) (x y : ℕ) where
  far-tests : (c : Circuit) → step_tests c (with_far x y l) s ≡ step_tests c l s
  far-tests c = rw (ne_eqb s.phase 1 n)

  far-run : (c : Circuit) → state_after c (with_far x y l) s ≡ state_after c l s
  unfolding state_after
  far-run c = rw (ne_eqb s.phase 1 n)

  far-accepted : (c : Circuit) (r : StepState) → accepted_step c (with_far x y l) r ≡ far_lent x y (accepted_step c l r)
  unfolding with_outputs
  far-accepted c r =
      either r.phase 1
      (λ e. accepted-waits c (with_far x y l) r e ∙ ap (far_lent x y) (sym (accepted-waits c l r e)))
      (λ m. accepted-ends c (with_far x y l) r m ∙ ap (far_lent x y) (sym (accepted-ends c l r m)))

  abbrev by : StepLent → Circuit → ℕ → StepOutcome
  by k c m = by_number m (refused_step k s) (accepted_step c k (state_after c k s))

  far_by : (c : Circuit) (m : ℕ) → by (with_far x y l) c m ≡ far_lent x y (by l c m)
  unfolding by_number
  far_by c zero = ap (accepted_step c (with_far x y l)) (far-run c) ∙ far-accepted c (state_after c l s)
  far_by c (suc m) = refl

  far_unread : step (with_far x y l) s ≡ far_lent x y (step l s)
  unfolding step after_reading answered
  far_unread = of (read_circuit l.circuit)
    where
      of : (r : Reading Circuit) → after_reading r (refused_step (with_far x y l) s) (λ c. by (with_far x y l) c (first_fault (step_tests c (with_far x y l) s)))
          ≡ far_lent x y (after_reading r (refused_step l s) (λ c. by l c (first_fault (step_tests c l s))))
      of (Whole c) = ap (λ (t : List Test). by (with_far x y l) c (first_fault t)) (far-tests c) ∙ far_by c (first_fault (step_tests c l s))
      of (Refused k) = refl

-- document 02, 9: progress
pub progress : Progress
progress =
    record {
      refused = refused_is step_laws;
      advances = passes-gate;
      finishes = finishes;
      again = again;
      bits = run-gives;
      far = far_unread;
    }
