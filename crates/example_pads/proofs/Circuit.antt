-- The circuit run by both ends: their runs by computation, what they got and received step by step, and the value by `Circuits` itself.
use mathlib.Core.Path.{◌≡◌, refl, sym, ap, ap₂, ◌∙◌}
use mathlib.Core.List.{List, [], ◌∷◌}
use mathlib.Core.Option.{none-ne-some, some-injective}
use Prim.Native.Nat.{ℕ, zero, suc, ◌<◌}
use native.Mathlib.Omega.{arith}
use lib.Dec.{lit<}
use lib.ListN.{get_elem?}
use Rattle.algebra.specs.Coding.{flat, over}
use Rattle.answer.specs.Bytes.{any_above}
use Rattle.answer.specs.Outcome.{by_number, answered}
use Rattle.answer.specs.Tests.{is_met, first_fault}
use Rattle.number.specs.Number.{read_number, last_group}
use Rattle.number.specs.Reading.{Whole, tested, after_reading, read_byte}
use Rattle.pads.specs.Triples.Call.{triples}
use Rattle.pads.specs.Triples.Triple.{triple_from, triple_of}
use Rattle.circuit.specs.Content.{ands_in}
use Rattle.circuit.specs.Reading.{read_within, read_wire, read_gate, read_gates, read_wires, read_circuit}
use Rattle.circuit_run.specs.Step.{fresh_wires, flipped, run_on, masked_first, masked_second, and_share, waiting_share, with_and, state_after, with_outputs, accepted_step, step}
use Rattle.circuit_claims.specs.Evaluation.{combined, Own, Receives, Ends}
use Rattle.circuit_claims.specs.Calls.{accepted_calls}
use Rattle.circuit_claims.specs.Runs.{fresh, StepMade, steps_of, IsStep}
use Rattle.claims.proofs.CircuitRuns.{circuits}
use Rattle.claims.specs.Formed.{GatheredAt}
use Rattle.example_pads.specs.Triples.{lent₁, lent₂}
use Rattle.example_pads.specs.Circuit.{circuit, circuit_bytes, shares₁, shares₂, triple₁, triple₂, step₁, step₂, calls₁, calls₂, Finished, CircuitExample}
use Rattle.example_pads.proofs.Triples.{formed}

-- ---- runs of two accepted steps

-- what holds of both steps holds of each
of_two : (P : StepMade → Type 0) (a b : StepMade) → P a → P b → (k : ℕ) (m : StepMade) → IsStep (a ∷ b ∷ []) k m → P m
of_two P a b p q zero m e = rw (← some-injective a m e) p
of_two P a b p q (suc zero) m e = rw (← some-injective b m e) q
of_two P a b p q (suc (suc k)) m e = absurd (none-ne-some m e)

-- the second step gets the bits that the far end's first step gave
receives_two : (a b f g : StepMade) → b.got.far_first ≡ f.gave.first_bit → b.got.far_second ≡ f.gave.second_bit
    → Receives (a ∷ b ∷ []) (f ∷ g ∷ [])
receives_two a b f g e h zero before m far p w q r =
    rw (← some-injective b m q, ← some-injective f far r) (e, h)
receives_two a b f g e h (suc k) before m far p w q r = absurd (none-ne-some m q)

-- ---- both runs

reads : read_circuit circuit_bytes ≡ Whole circuit
unfolding read_within read_wire read_gate read_gates read_wires read_circuit tested read_byte read_number last_group
reads = refl

made₁ : StepMade
made₁ = record { got = step₁ 2 0 0; gave = step (step₁ 2 0 0) fresh }

last₁ : StepMade
last₁ = record { got = step₁ 2 1 1; gave = step (step₁ 2 1 1) made₁.gave.state }

made₂ : StepMade
made₂ = record { got = step₂ 2 0 0; gave = step (step₂ 2 0 0) fresh }

last₂ : StepMade
last₂ = record { got = step₂ 2 0 0; gave = step (step₂ 2 0 0) made₂.gave.state }

run₁ : steps_of calls₁ ≡ made₁ ∷ last₁ ∷ []
unfolding read_within read_wire read_gate read_gates read_wires read_circuit tested read_byte read_number last_group ands_in any_above is_met first_fault fresh_wires flipped run_on masked_first masked_second and_share waiting_share with_and state_after with_outputs accepted_step by_number answered after_reading step fresh accepted_calls made₁ last₁
run₁ = refl

run₂ : steps_of calls₂ ≡ made₂ ∷ last₂ ∷ []
unfolding read_within read_wire read_gate read_gates read_wires read_circuit tested read_byte read_number last_group ands_in any_above is_met first_fault fresh_wires flipped run_on masked_first masked_second and_share waiting_share with_and state_after with_outputs accepted_step by_number answered after_reading step fresh accepted_calls made₂ last₂
run₂ = refl

ends : Ends circuit_bytes shares₁ triple₁ shares₂ triple₂ (steps_of calls₁) (steps_of calls₂)
unfolding read_within read_wire read_gate read_gates read_wires read_circuit tested read_byte read_number last_group ands_in any_above is_met first_fault fresh_wires flipped run_on masked_first masked_second and_share waiting_share with_and state_after with_outputs accepted_step by_number answered after_reading step fresh accepted_calls made₁ last₁ made₂ last₂
ends =
    rw (run₁, run₂)
    (record {
      role_1 = of_two (λ m. Own 1 circuit_bytes shares₁ triple₁ m.got) made₁ last₁
          (record { own-role = refl; own-circuit = refl; own-shares = refl; own-triples = refl })
          (record { own-role = refl; own-circuit = refl; own-shares = refl; own-triples = refl });
      role_2 = of_two (λ m. Own 2 circuit_bytes shares₂ triple₂ m.got) made₂ last₂
          (record { own-role = refl; own-circuit = refl; own-shares = refl; own-triples = refl })
          (record { own-role = refl; own-circuit = refl; own-shares = refl; own-triples = refl });
      to_1 = receives_two made₁ last₁ made₂ last₂ refl refl;
      to_2 = receives_two made₂ last₂ made₁ last₁ refl refl;
    })

finished₁ : Finished calls₁ (0 ∷ 0 ∷ [])
unfolding read_within read_wire read_gate read_gates read_wires read_circuit tested read_byte read_number last_group ands_in any_above is_met first_fault fresh_wires flipped run_on masked_first masked_second and_share waiting_share with_and state_after with_outputs accepted_step by_number answered after_reading step fresh accepted_calls made₁ last₁
finished₁ = record { made = last₁; step = ap (λ (l : List StepMade). get_elem? l 1) run₁; phase = refl; written = refl }

finished₂ : Finished calls₂ (0 ∷ 1 ∷ [])
unfolding read_within read_wire read_gate read_gates read_wires read_circuit tested read_byte read_number last_group ands_in any_above is_met first_fault fresh_wires flipped run_on masked_first masked_second and_share waiting_share with_and state_after with_outputs accepted_step by_number answered after_reading step fresh accepted_calls made₂ last₂
finished₂ = record { made = last₂; step = ap (λ (l : List StepMade). get_elem? l 1) run₂; phase = refl; written = refl }

-- the circuit's one AND takes triple 0, which is the triple at place 1 of both calls
gathered : (j : ℕ) → j < ands_in circuit.gates → GatheredAt triple₁ triple₂ j
unfolding ands_in any_above is_met first_fault by_number answered triples flat over triple_from triple_of
gathered zero h = record { l = lent₁; l' = lent₂; i = 1; i' = 1; formed = formed 1 (lit< tt); triple₁ = refl; triple₂ = refl }
gathered (suc j) h = absurd (omega arith)

pub circuit_example : CircuitExample
circuit_example =
    record {
      read = reads;
      ends = ends;
      gathered = gathered;
      finished₁ = finished₁;
      finished₂ = finished₂;
      value =
          ap₂ combined (sym finished₁.written) (sym finished₂.written)
          ∙ circuits circuit_bytes circuit reads calls₁ calls₂ shares₁ triple₁ shares₂ triple₂ ends gathered 1 1 finished₁.made finished₂.made
          finished₁.step finished₂.step finished₁.phase finished₂.phase;
    }
