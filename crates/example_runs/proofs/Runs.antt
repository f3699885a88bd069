-- The circuit of three ANDs run by both ends: their runs by computation, what they got and received call by call, and what follows by
-- the statements themselves.
use mathlib.Core.Path.{◌≡◌, refl, sym, ap, ◌∙◌}
use mathlib.Core.Bool.{true, false≢true}
use mathlib.Core.List.{List, [], ◌∷◌, ◌++◌}
use mathlib.Core.Option.{some, none-ne-some, some-injective}
use Prim.Native.Nat.{ℕ, zero, suc, ◌<◌}
use native.Mathlib.Omega.{arith}
use lib.ListN.{get_elem?}
use Rattle.algebra.specs.Coding.{flat, over}
use Rattle.answer.specs.Bytes.{any_above}
use Rattle.answer.specs.Outcome.{by_number, answered}
use Rattle.answer.specs.Tests.{is_met, first_fault}
use Rattle.number.specs.Number.{read_number, last_group}
use Rattle.number.specs.Reading.{Whole, tested, after_reading, read_byte}
use Rattle.pads.specs.Triples.Call.{triples}
use Rattle.pads.specs.Triples.Matching.{triples_of}
use Rattle.pads.specs.Triples.Triple.{triple_from, triple_of}
use Rattle.circuit.specs.Content.{is_and, ands_in}
use Rattle.circuit.specs.Levels.{gate_level, levels, ands_of}
use Rattle.circuit.specs.Reading.{read_within, read_wire, read_gate, read_gates, read_wires, read_circuit}
use Rattle.circuit.specs.Value.{gate_value, over_gates, value_of}
use Rattle.circuit_run.specs.Round as rounds
use Rattle.circuit_run.specs.Round.{waiting, input_bytes, ready, opened_share, computed, gate_byte, wires_after, opened_bits, with_bits, accepted_round, round}
use Rattle.circuit_run.specs.Step as steps
use Rattle.circuit_run.specs.Step.{gate_at, fresh_wires, flipped, run_on, masked_first, masked_second, and_share, waiting_share, with_and, state_after, accepted_step, step}
use Rattle.circuit_claims.proofs.Sames as same
use Rattle.circuit_claims.specs.Calls.{accepted_calls}
use Rattle.circuit_claims.specs.Evaluation.{combined, Own, Ends}
use Rattle.circuit_claims.specs.RoundEvaluation.{OwnRound, RoundEnds}
use Rattle.circuit_claims.specs.RoundRuns.{fresh_state, RoundMade, rounds_of, IsRound, bits_by, Waits}
use Rattle.circuit_claims.specs.Runs.{fresh, StepMade, steps_of}
use Rattle.circuit_claims.specs.Same.{SameFar, Alike}
use Rattle.claims.proofs.CircuitRuns.{circuits}
use Rattle.claims.proofs.Entire.{of_dealing}
use Rattle.claims.proofs.RoundRuns.{round_circuits}
use Rattle.claims.specs.Formed.{FormedAt, GatheredAt}
use Rattle.example_runs.specs.Runs.{near₀₁, near₂, far₀, far₁₂, triples₁, triples₂, circuit, circuit_bytes, shares₁, shares₂, step₁, step₂, steps₁, steps₂, round₁, round₂, rounds₁, rounds₂, StepsEnd, RoundsEnd, RunsExample}
use Rattle.example_runs.proofs.Windows.{two_dealing, three_dealing, two_taken₀, two_taken₁, two_taken₂, three_taken₀, three_taken₁, three_taken₂}

-- ---- lists of made calls

-- what holds of each of a list
Each : {A : Type 0} → (A → Type 0) → List A → Type 0
Each P [] = Unit {0}
Each P (a ∷ l) = P a × Each P l

each_at : {A : Type 0} (P : A → Type 0) (l : List A) → Each P l → (k : ℕ) (m : A) → get_elem? l k ≡ some m → P m
unfolding Each
each_at P [] h k m e = absurd (none-ne-some m e)
each_at P (a ∷ l) h zero m e = rw (← some-injective a m e) h.0
each_at P (a ∷ l) h (suc k) m e = each_at P l h.1 k m e

-- what holds of those at equal places of two lists
Beside : {A B : Type 0} → (A → B → Type 0) → List A → List B → Type 0
Beside R [] fs = Unit {0}
Beside R (a ∷ l) [] = Unit {0}
Beside R (a ∷ l) (f ∷ fs) = R a f × Beside R l fs

beside_at : {A B : Type 0} (R : A → B → Type 0) (l : List A) (fs : List B) → Beside R l fs → (k : ℕ) (m : A) (f : B)
    → get_elem? l k ≡ some m → get_elem? fs k ≡ some f → R m f
unfolding Beside
beside_at R [] fs h k m f e g = absurd (none-ne-some m e)
beside_at R (a ∷ l) [] h k m f e g = absurd (none-ne-some f g)
beside_at R (a ∷ l) (b ∷ fs) h zero m f e g = rw (← some-injective a m e, ← some-injective b f g) h.0
beside_at R (a ∷ l) (b ∷ fs) h (suc k) m f e g = beside_at R l fs h.1 k m f e g

-- a made call at a place of a run that is this list
made_is : {A : Type 0} (run list : List A) → run ≡ list → (k : ℕ) (a m : A) → get_elem? list k ≡ some a → get_elem? run k ≡ some m → a ≡ m
made_is run list e k a m at_a at-m = some-injective a m (sym at_a ∙ ap (λ l. get_elem? l k) (sym e) ∙ at-m)

-- ---- triples

formed₀ : FormedAt near₀₁ far₀ 0 0
unfolding any_above is_met first_fault by_number answered triples
formed₀ =
    record {
      source = of_dealing two_dealing;
      source' = of_dealing three_dealing;
      accepted = refl;
      accepted' = refl;
      taken = two_taken₀;
      taken' = three_taken₀;
    }

formed₁ : FormedAt near₀₁ far₁₂ 1 0
unfolding any_above is_met first_fault by_number answered triples
formed₁ =
    record {
      source = of_dealing two_dealing;
      source' = of_dealing three_dealing;
      accepted = refl;
      accepted' = refl;
      taken = two_taken₁;
      taken' = three_taken₁;
    }

formed₂ : FormedAt near₂ far₁₂ 0 1
unfolding any_above is_met first_fault by_number answered triples
formed₂ =
    record {
      source = of_dealing two_dealing;
      source' = of_dealing three_dealing;
      accepted = refl;
      accepted' = refl;
      taken = two_taken₂;
      taken' = three_taken₂;
    }

gathered : (j : ℕ) → j < ands_in circuit.gates → GatheredAt triples₁ triples₂ j
unfolding ands_in any_above is_met first_fault by_number answered triples flat over triple_from triple_of
gathered zero h = record { l = near₀₁; l' = far₀; i = 0; i' = 0; formed = formed₀; triple₁ = refl; triple₂ = refl }
gathered (suc zero) h = record { l = near₀₁; l' = far₁₂; i = 1; i' = 0; formed = formed₁; triple₁ = refl; triple₂ = refl }
gathered (suc (suc zero)) h = record { l = near₂; l' = far₁₂; i = 0; i' = 1; formed = formed₂; triple₁ = refl; triple₂ = refl }
gathered (suc (suc (suc j))) h = absurd (omega arith)

-- ---- the runs

reads : read_circuit circuit_bytes ≡ Whole circuit
unfolding read_within read_wire read_gate read_gates read_wires read_circuit tested read_byte read_number last_group
reads = refl

made₁0 : StepMade
made₁0 = record { got = step₁ 0 0; gave = step (step₁ 0 0) fresh }

made₁1 : StepMade
made₁1 = record { got = step₁ 0 0; gave = step (step₁ 0 0) made₁0.gave.state }

made₁2 : StepMade
made₁2 = record { got = step₁ 0 1; gave = step (step₁ 0 1) made₁1.gave.state }

made₁3 : StepMade
made₁3 = record { got = step₁ 1 1; gave = step (step₁ 1 1) made₁2.gave.state }

run₁ : steps_of steps₁ ≡ made₁0 ∷ made₁1 ∷ made₁2 ∷ made₁3 ∷ []
unfolding read_within read_wire read_gate read_gates read_wires read_circuit tested read_byte read_number last_group ands_in any_above is_met first_fault fresh_wires flipped run_on masked_first masked_second and_share waiting_share with_and state_after steps.with_outputs accepted_step by_number answered after_reading step fresh accepted_calls made₁0 made₁1 made₁2 made₁3
run₁ = refl

made₂0 : StepMade
made₂0 = record { got = step₂ 0 0; gave = step (step₂ 0 0) fresh }

made₂1 : StepMade
made₂1 = record { got = step₂ 0 1; gave = step (step₂ 0 1) made₂0.gave.state }

made₂2 : StepMade
made₂2 = record { got = step₂ 1 1; gave = step (step₂ 1 1) made₂1.gave.state }

made₂3 : StepMade
made₂3 = record { got = step₂ 0 1; gave = step (step₂ 0 1) made₂2.gave.state }

run₂ : steps_of steps₂ ≡ made₂0 ∷ made₂1 ∷ made₂2 ∷ made₂3 ∷ []
unfolding read_within read_wire read_gate read_gates read_wires read_circuit tested read_byte read_number last_group ands_in any_above is_met first_fault fresh_wires flipped run_on masked_first masked_second and_share waiting_share with_and state_after steps.with_outputs accepted_step by_number answered after_reading step fresh accepted_calls made₂0 made₂1 made₂2 made₂3
run₂ = refl

opened₁0 : RoundMade
opened₁0 = record { got = round₁ []; gave = round (round₁ []) fresh_state }

opened₁1 : RoundMade
opened₁1 = record { got = round₁ (0 ∷ 0 ∷ 1 ∷ 1 ∷ []); gave = round (round₁ (0 ∷ 0 ∷ 1 ∷ 1 ∷ [])) opened₁0.gave.state }

opened₁2 : RoundMade
opened₁2 = record { got = round₁ (0 ∷ 1 ∷ []); gave = round (round₁ (0 ∷ 1 ∷ [])) opened₁1.gave.state }

rounds_run₁ : rounds_of rounds₁ ≡ opened₁0 ∷ opened₁1 ∷ opened₁2 ∷ []
unfolding read_within read_wire read_gate read_gates read_wires read_circuit tested read_byte read_number last_group ands_in any_above is_met first_fault masked_first masked_second and_share input_bytes ready opened_share computed gate_byte wires_after opened_bits with_bits rounds.with_outputs accepted_round waiting over_gates flipped by_number answered after_reading round fresh_state accepted_calls opened₁0 opened₁1 opened₁2
rounds_run₁ = refl

opened₂0 : RoundMade
opened₂0 = record { got = round₂ []; gave = round (round₂ []) fresh_state }

opened₂1 : RoundMade
opened₂1 = record { got = round₂ (0 ∷ 1 ∷ 0 ∷ 1 ∷ []); gave = round (round₂ (0 ∷ 1 ∷ 0 ∷ 1 ∷ [])) opened₂0.gave.state }

opened₂2 : RoundMade
opened₂2 = record { got = round₂ (1 ∷ 1 ∷ []); gave = round (round₂ (1 ∷ 1 ∷ [])) opened₂1.gave.state }

rounds_run₂ : rounds_of rounds₂ ≡ opened₂0 ∷ opened₂1 ∷ opened₂2 ∷ []
unfolding read_within read_wire read_gate read_gates read_wires read_circuit tested read_byte read_number last_group ands_in any_above is_met first_fault masked_first masked_second and_share input_bytes ready opened_share computed gate_byte wires_after opened_bits with_bits rounds.with_outputs accepted_round waiting over_gates flipped by_number answered after_reading round fresh_state accepted_calls opened₂0 opened₂1 opened₂2
rounds_run₂ = refl

-- ---- what the ends lend and receive

owns₁ : Each (λ m. Own 1 circuit_bytes shares₁ triples₁ m.got) (made₁0 ∷ made₁1 ∷ made₁2 ∷ made₁3 ∷ [])
unfolding Each made₁0 made₁1 made₁2 made₁3
owns₁ = (
  record { own-role = refl; own-circuit = refl; own-shares = refl; own-triples = refl },
  (
    record { own-role = refl; own-circuit = refl; own-shares = refl; own-triples = refl },
    (
      record { own-role = refl; own-circuit = refl; own-shares = refl; own-triples = refl },
      (
        record { own-role = refl; own-circuit = refl; own-shares = refl; own-triples = refl },
        tt,
      ),
    ),
  ),
)

round_owns₁ : Each (λ m. OwnRound 1 circuit_bytes shares₁ triples₁ m.got) (opened₁0 ∷ opened₁1 ∷ opened₁2 ∷ [])
unfolding Each opened₁0 opened₁1 opened₁2
round_owns₁ = (
  record { own-role = refl; own-circuit = refl; own-shares = refl; own-triples = refl },
  (
    record { own-role = refl; own-circuit = refl; own-shares = refl; own-triples = refl },
    (
      record { own-role = refl; own-circuit = refl; own-shares = refl; own-triples = refl },
      tt,
    ),
  ),
)

owns₂ : Each (λ m. Own 2 circuit_bytes shares₂ triples₂ m.got) (made₂0 ∷ made₂1 ∷ made₂2 ∷ made₂3 ∷ [])
unfolding Each made₂0 made₂1 made₂2 made₂3
owns₂ = (
  record { own-role = refl; own-circuit = refl; own-shares = refl; own-triples = refl },
  (
    record { own-role = refl; own-circuit = refl; own-shares = refl; own-triples = refl },
    (
      record { own-role = refl; own-circuit = refl; own-shares = refl; own-triples = refl },
      (
        record { own-role = refl; own-circuit = refl; own-shares = refl; own-triples = refl },
        tt,
      ),
    ),
  ),
)

round_owns₂ : Each (λ m. OwnRound 2 circuit_bytes shares₂ triples₂ m.got) (opened₂0 ∷ opened₂1 ∷ opened₂2 ∷ [])
unfolding Each opened₂0 opened₂1 opened₂2
round_owns₂ = (
  record { own-role = refl; own-circuit = refl; own-shares = refl; own-triples = refl },
  (
    record { own-role = refl; own-circuit = refl; own-shares = refl; own-triples = refl },
    (
      record { own-role = refl; own-circuit = refl; own-shares = refl; own-triples = refl },
      tt,
    ),
  ),
)

gets₁ : Beside (λ (m f : StepMade). (m.got.far_first ≡ f.gave.first_bit) × (m.got.far_second ≡ f.gave.second_bit))
    (made₁1 ∷ made₁2 ∷ made₁3 ∷ []) (made₂0 ∷ made₂1 ∷ made₂2 ∷ made₂3 ∷ [])
unfolding read_within read_wire read_gate read_gates read_wires read_circuit tested read_byte read_number last_group ands_in any_above is_met first_fault fresh_wires flipped run_on masked_first masked_second and_share waiting_share with_and state_after steps.with_outputs accepted_step by_number answered after_reading step fresh accepted_calls Beside made₁0 made₁1 made₁2 made₁3 made₂0 made₂1 made₂2 made₂3
gets₁ = ((refl, refl), ((refl, refl), ((refl, refl), tt)))

round_gets₁ : Beside (λ (m f : RoundMade). m.got.far ≡ bits_by f.gave) (opened₁1 ∷ opened₁2 ∷ []) (opened₂0 ∷ opened₂1 ∷ opened₂2 ∷ [])
unfolding read_within read_wire read_gate read_gates read_wires read_circuit tested read_byte read_number last_group ands_in any_above is_met first_fault masked_first masked_second and_share input_bytes ready opened_share computed gate_byte wires_after opened_bits with_bits rounds.with_outputs accepted_round waiting over_gates flipped by_number answered after_reading round fresh_state accepted_calls Beside opened₁0 opened₁1 opened₁2 opened₂0 opened₂1 opened₂2
round_gets₁ = (refl, (refl, tt))

gets₂ : Beside (λ (m f : StepMade). (m.got.far_first ≡ f.gave.first_bit) × (m.got.far_second ≡ f.gave.second_bit))
    (made₂1 ∷ made₂2 ∷ made₂3 ∷ []) (made₁0 ∷ made₁1 ∷ made₁2 ∷ made₁3 ∷ [])
unfolding read_within read_wire read_gate read_gates read_wires read_circuit tested read_byte read_number last_group ands_in any_above is_met first_fault fresh_wires flipped run_on masked_first masked_second and_share waiting_share with_and state_after steps.with_outputs accepted_step by_number answered after_reading step fresh accepted_calls Beside made₁0 made₁1 made₁2 made₁3 made₂0 made₂1 made₂2 made₂3
gets₂ = ((refl, refl), ((refl, refl), ((refl, refl), tt)))

round_gets₂ : Beside (λ (m f : RoundMade). m.got.far ≡ bits_by f.gave) (opened₂1 ∷ opened₂2 ∷ []) (opened₁0 ∷ opened₁1 ∷ opened₁2 ∷ [])
unfolding read_within read_wire read_gate read_gates read_wires read_circuit tested read_byte read_number last_group ands_in any_above is_met first_fault masked_first masked_second and_share input_bytes ready opened_share computed gate_byte wires_after opened_bits with_bits rounds.with_outputs accepted_round waiting over_gates flipped by_number answered after_reading round fresh_state accepted_calls Beside opened₁0 opened₁1 opened₁2 opened₂0 opened₂1 opened₂2
round_gets₂ = (refl, (refl, tt))

ends : Ends circuit_bytes shares₁ triples₁ shares₂ triples₂ (steps_of steps₁) (steps_of steps₂)
ends =
    rw (run₁, run₂)
    (record {
      role_1 = each_at (λ m. Own 1 circuit_bytes shares₁ triples₁ m.got) (made₁0 ∷ made₁1 ∷ made₁2 ∷ made₁3 ∷ []) owns₁;
      role_2 = each_at (λ m. Own 2 circuit_bytes shares₂ triples₂ m.got) (made₂0 ∷ made₂1 ∷ made₂2 ∷ made₂3 ∷ []) owns₂;
      to_1 = λ k before m f p w q r. beside_at _ _ _ gets₁ k m f q r;
      to_2 = λ k before m f p w q r. beside_at _ _ _ gets₂ k m f q r;
    })

round-ends : RoundEnds circuit_bytes shares₁ triples₁ shares₂ triples₂ (rounds_of rounds₁) (rounds_of rounds₂)
round-ends =
    rw (rounds_run₁, rounds_run₂)
    (record {
      role_1 = each_at (λ m. OwnRound 1 circuit_bytes shares₁ triples₁ m.got) (opened₁0 ∷ opened₁1 ∷ opened₁2 ∷ []) round_owns₁;
      role_2 = each_at (λ m. OwnRound 2 circuit_bytes shares₂ triples₂ m.got) (opened₂0 ∷ opened₂1 ∷ opened₂2 ∷ []) round_owns₂;
      to_1 = λ k m f q r. beside_at _ _ _ round_gets₁ k m f q r;
      to_2 = λ k m f q r. beside_at _ _ _ round_gets₂ k m f q r;
    })

steps_end₁ : StepsEnd steps₁ (0 ∷ 0 ∷ [])
unfolding read_within read_wire read_gate read_gates read_wires read_circuit tested read_byte read_number last_group ands_in any_above is_met first_fault fresh_wires flipped run_on masked_first masked_second and_share waiting_share with_and state_after steps.with_outputs accepted_step by_number answered after_reading step fresh accepted_calls made₁0 made₁1 made₁2 made₁3
steps_end₁ = record { made = made₁3; step = ap (λ (l : List StepMade). get_elem? l 3) run₁; phase = refl; written = refl }

rounds_end₁ : RoundsEnd rounds₁ (0 ∷ 0 ∷ [])
unfolding read_within read_wire read_gate read_gates read_wires read_circuit tested read_byte read_number last_group ands_in any_above is_met first_fault masked_first masked_second and_share input_bytes ready opened_share computed gate_byte wires_after opened_bits with_bits rounds.with_outputs accepted_round waiting over_gates flipped by_number answered after_reading round fresh_state accepted_calls opened₁0 opened₁1 opened₁2
rounds_end₁ =
    record { made = opened₁2; round = ap (λ (l : List RoundMade). get_elem? l 2) rounds_run₁; finished = (refl, refl); written = refl }

steps_end₂ : StepsEnd steps₂ (0 ∷ 1 ∷ [])
unfolding read_within read_wire read_gate read_gates read_wires read_circuit tested read_byte read_number last_group ands_in any_above is_met first_fault fresh_wires flipped run_on masked_first masked_second and_share waiting_share with_and state_after steps.with_outputs accepted_step by_number answered after_reading step fresh accepted_calls made₂0 made₂1 made₂2 made₂3
steps_end₂ = record { made = made₂3; step = ap (λ (l : List StepMade). get_elem? l 3) run₂; phase = refl; written = refl }

rounds_end₂ : RoundsEnd rounds₂ (0 ∷ 1 ∷ [])
unfolding read_within read_wire read_gate read_gates read_wires read_circuit tested read_byte read_number last_group ands_in any_above is_met first_fault masked_first masked_second and_share input_bytes ready opened_share computed gate_byte wires_after opened_bits with_bits rounds.with_outputs accepted_round waiting over_gates flipped by_number answered after_reading round fresh_state accepted_calls opened₂0 opened₂1 opened₂2
rounds_end₂ =
    record { made = opened₂2; round = ap (λ (l : List RoundMade). get_elem? l 2) rounds_run₂; finished = (refl, refl); written = refl }

-- ---- steps and rounds of one end

alike : Alike circuit_bytes circuit 1 shares₁ triples₁ triples₁ (steps_of steps₁) (rounds_of rounds₁)
alike = record { reads = reads; in-steps = ends.role_1; in-rounds = round-ends.role_1; same-triples = refl }

same-far₀ : SameFar circuit (steps_of steps₁) (rounds_of rounds₁) 0
unfolding ands_in gate_level levels ands_of over_gates made₁0 made₁1 made₁2 made₁3 opened₁0 opened₁1 opened₁2
same-far₀ m r e f =
    rw (
      ← made_is (steps_of steps₁) (made₁0 ∷ made₁1 ∷ made₁2 ∷ made₁3 ∷ []) run₁ 1 made₁1 m refl e,
      ← made_is (rounds_of rounds₁) (opened₁0 ∷ opened₁1 ∷ opened₁2 ∷ []) rounds_run₁ 1 opened₁1 r refl f,
    )
    (refl, refl)

same_far₁ : SameFar circuit (steps_of steps₁) (rounds_of rounds₁) 1
unfolding ands_in gate_level levels ands_of over_gates made₁0 made₁1 made₁2 made₁3 opened₁0 opened₁1 opened₁2
same_far₁ m r e f =
    rw (
      ← made_is (steps_of steps₁) (made₁0 ∷ made₁1 ∷ made₁2 ∷ made₁3 ∷ []) run₁ 2 made₁2 m refl e,
      ← made_is (rounds_of rounds₁) (opened₁0 ∷ opened₁1 ∷ opened₁2 ∷ []) rounds_run₁ 2 opened₁2 r refl f,
    )
    (refl, refl)

same_far₂ : SameFar circuit (steps_of steps₁) (rounds_of rounds₁) 2
unfolding ands_in gate_level levels ands_of over_gates made₁0 made₁1 made₁2 made₁3 opened₁0 opened₁1 opened₁2
same_far₂ m r e f =
    rw (
      ← made_is (steps_of steps₁) (made₁0 ∷ made₁1 ∷ made₁2 ∷ made₁3 ∷ []) run₁ 3 made₁3 m refl e,
      ← made_is (rounds_of rounds₁) (opened₁0 ∷ opened₁1 ∷ opened₁2 ∷ []) rounds_run₁ 1 opened₁1 r refl f,
    )
    (refl, refl)

same-far : (i : ℕ) → is_and (gate_at circuit i) ≡ true → SameFar circuit (steps_of steps₁) (rounds_of rounds₁) i
same-far zero a = same-far₀
same-far (suc zero) a = same_far₁
same-far (suc (suc zero)) a = same_far₂
same-far (suc (suc (suc i))) a = absurd (false≢true a)

-- after round 0, which ANDs wait: those of level 1
opened : (m : RoundMade) → IsRound (rounds_of rounds₁) 0 m
    → Waits m.gave.state 3 × (Waits m.gave.state 4 → ⊥) × Waits m.gave.state 5
unfolding gate_level levels over_gates
opened m e =
    let by = (same.opened-once).by_round circuit_bytes circuit reads rounds₁ (λ k n g. (round-ends.role_1 k n g).own-circuit) 0 m e in (
      (by 0 refl).0.1 refl,
      λ w. let no = (by 1 refl).0.0 w in absurd (omega (arith, no)),
      (by 2 refl).0.1 refl,
    )

value_is : value_of circuit (combined shares₁ shares₂) ≡ 0 ∷ 1 ∷ []
unfolding gate_value over_gates value_of combined
value_is = refl

gathered₁ : triples₁ ≡ triples_of near₀₁ ++ triples_of near₂
unfolding any_above is_met first_fault by_number answered triples flat over triple_from triple_of
gathered₁ = refl

gathered₂ : triples₂ ≡ triples_of far₀ ++ triples_of far₁₂
unfolding any_above is_met first_fault by_number answered triples flat over triple_from triple_of
gathered₂ = refl

pub runs_example : RunsExample
runs_example =
    record {
      formed₀ = formed₀;
      formed₁ = formed₁;
      formed₂ = formed₂;
      gathered₁ = gathered₁;
      gathered₂ = gathered₂;
      gathered = gathered;
      read = reads;
      ends = ends;
      round-ends = round-ends;
      steps_end₁ = steps_end₁;
      steps_end₂ = steps_end₂;
      rounds_end₁ = rounds_end₁;
      rounds_end₂ = rounds_end₂;
      value =
          circuits circuit_bytes circuit reads steps₁ steps₂ shares₁ triples₁ shares₂ triples₂ ends gathered 3 3
          steps_end₁.made steps_end₂.made
          steps_end₁.step steps_end₂.step steps_end₁.phase steps_end₂.phase;
      round-value =
          round_circuits circuit_bytes circuit reads rounds₁ rounds₂ shares₁ triples₁ shares₂ triples₂ round-ends gathered 2 2
          rounds_end₁.made rounds_end₂.made rounds_end₁.round rounds_end₂.round rounds_end₁.finished rounds_end₂.finished;
      is-value = value_is;
      same-outputs =
          (same.same-outputs circuit_bytes circuit 1 shares₁ triples₁ triples₁ steps₁ rounds₁ alike same-far 3 2
          steps_end₁.made rounds_end₁.made
          steps_end₁.step rounds_end₁.round steps_end₁.phase rounds_end₁.finished).0;
      same_bits = same.same_bits circuit_bytes circuit 1 shares₁ triples₁ triples₁ steps₁ rounds₁ alike 2 refl (λ n h a. same-far n a);
      opened = opened;
    }
