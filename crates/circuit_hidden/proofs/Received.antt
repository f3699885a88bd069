-- What a run gets for its ANDs and what its calls receive, one by one: the one tells the other. Assumes nothing.
use Prim.Native.Nat.{ℕ, zero, suc, ◌+◌, ◌-◌, ◌*◌, ◌/◌, ◌%◌, ◌<◌}
use mathlib.Core.Bool.{Bool, true, false, ◌&&◌}
use mathlib.Core.List.{List, [], ◌∷◌}
use mathlib.Core.Logic.{◌↔◌}
use mathlib.Core.Path.{◌≡◌, refl, sym, ap, ◌∙◌, subst}
use borrow.Author.Tests.{eqb-true}
use native.Mathlib.Omega.{arith}
use lib.Dec.{eqb}
use lib.ListN.{length, get_or, take, drop}
use lib.Seq.{ext_get_or, get_or-drop}
use Rattle.algebra.proofs.Tests.{and_left, and_right}
use Rattle.algebra.specs.Choice.{choose}
use Rattle.circuit.proofs.Exact.{admitted}
use Rattle.circuit.specs.Content.{Gate, Not, Circuit, is_and, ands_in}
use Rattle.circuit.specs.Levels.{levels, ands_of, ands_at_level}
use Rattle.circuit.specs.Reading.{read_circuit}
use Rattle.circuit_claims.proofs.AndGates.{and_before, gate-of}
use Rattle.circuit_claims.proofs.Bytes.{later_at}
use Rattle.circuit_claims.proofs.Calls.{call_before, made_at}
use Rattle.circuit_claims.proofs.CircuitCalls.{met_if, next-call, had_some}
use Rattle.circuit_claims.proofs.Evaluates.{late, received}
use Rattle.circuit_claims.proofs.Progresses as Progresses
use Rattle.circuit_claims.proofs.RoundChains.{round_laws}
use Rattle.circuit_claims.proofs.RoundEvaluates as Rounds
use Rattle.circuit_claims.proofs.RoundProgresses.{progress}
use Rattle.circuit_claims.specs.Evaluation.{Receives}
use Rattle.circuit_claims.specs.Progress.{OnCircuit}
use Rattle.circuit_claims.specs.RoundEvaluation.{ReceivesRounds}
use Rattle.circuit_claims.specs.RoundProgress.{RoundsOn, Moves}
use Rattle.circuit_claims.specs.RoundRuns.{fresh_state, RoundMade, rounds_of, IsRound, bits_by}
use Rattle.circuit_claims.specs.Runs.{StepMade, steps_of}
use Rattle.circuit_claims.specs.Same.{level_at, place_at}
use Rattle.circuit_claims.specs.Transcript.{BitsByAnd, pair_at, sent_at_gate, far_in_rounds, sent_in_rounds}
use Rattle.circuit_run.specs.Round.{RoundLent}
use Rattle.circuit_run.specs.Step.{ands_before}
use Rattle.circuit_run.specs.declared.RoundState.{RoundState}
use Rattle.circuit_hidden.proofs.Agrees.{by_and_lem}
use Rattle.circuit_hidden.specs.Run.{SameByAnd, InRounds, InSteps, ReceivedByAnd}
use Rattle.number.proofs.Places.{split}
use Rattle.number.specs.Reading.{Whole}

-- an AND of a level, by how many of that level come before it
abbrev AndOf : ℕ → ℕ → List Gate → List ℕ → Type 0
AndOf m n gs ls = (i : ℕ) × (is_and (get_or gs i (Not 0)) ≡ true) × (get_or ls i 0 ≡ m) × (ands_of m (take i gs) ls ≡ n)

and-of : (m n : ℕ) (gs : List Gate) (ls : List ℕ) → n < ands_of m gs ls → AndOf m n gs ls
unfolding ands_of
and-of m n [] ls h = absurd (omega arith)
and-of m n (g ∷ gs) ls h = of (is_and g && eqb (get_or ls 0 0) m) refl n h (λ k. and-of m k gs (drop 1 ls))
  where
    later : (b : Bool) → (is_and g && eqb (get_or ls 0 0) m) ≡ b → (k : ℕ) → AndOf m k gs (drop 1 ls) → AndOf m (choose b 1 0 + k) (g ∷ gs) ls
    later b e k r = (suc r.0, r.1, sym (later_at ls r.0) ∙ r.2, omega (arith, ap (λ (z : Bool). choose {A = ℕ} z 1 0) e, r.3))

    of : (b : Bool) → (is_and g && eqb (get_or ls 0 0) m) ≡ b → (k : ℕ) → k < choose b 1 0 + ands_of m gs (drop 1 ls)
        → ((j : ℕ) → j < ands_of m gs (drop 1 ls) → AndOf m j gs (drop 1 ls)) → AndOf m k (g ∷ gs) ls
    of true e zero l rest =
        (0, and_left (is_and g) (eqb (get_or ls 0 0) m) e, eqb-true _ _ (and_right (is_and g) (eqb (get_or ls 0 0) m) e), refl)
    of true e (suc k) l rest =
        subst (λ (j : ℕ). AndOf m j (g ∷ gs) ls) {x = 1 + k} {y = suc k} (omega arith) (later true e k (rest k (omega arith)))
    of false e k l rest =
        subst (λ (j : ℕ). AndOf m j (g ∷ gs) ls) {x = 0 + k} {y = k} (omega arith) (later false e k (rest k (omega arith)))

-- two lists with the same pairs
pairs_same : (xs ys : List ℕ) (p : ℕ) → pair_at xs (2 * (p / 2)) ≡ pair_at ys (2 * (p / 2)) → get_or xs p 0 ≡ get_or ys p 0
pairs_same xs ys p e = of (p % 2) refl
  where
    of : (b : ℕ) → p % 2 ≡ b → get_or xs p 0 ≡ get_or ys p 0
    of zero z = subst (λ (n : ℕ). get_or xs n 0 ≡ get_or ys n 0) {x = 2 * (p / 2)} {y = p} (omega arith) (ap (λ (q : ℕ × ℕ). q.0) e)
    of (suc b) z = subst (λ (n : ℕ). get_or xs n 0 ≡ get_or ys n 0) {x = 2 * (p / 2) + 1} {y = p} (omega arith) (ap (λ (q : ℕ × ℕ). q.1) e)

-- ---- accepted rounds of a run

module _ (circuit : List ℕ) (c : Circuit) (read : read_circuit circuit ≡ Whole c) (calls : List RoundLent)
    (stays : RoundsOn circuit (rounds_of calls)) where
  moves_at : (k : ℕ) (m : RoundMade) → IsRound (rounds_of calls) k m → (s : RoundState) × Moves c s m.gave
  moves_at k m e =
      let t = had_some round_laws fresh_state calls circuit read stays k m e in (
        t.0,
        subst (Moves c t.0) (sym t.1)
            (progress.moves c m.got t.0 t.2.read ((met_if round_laws m.got t.0 t.2.read).0 t.2.met)),
      )

  -- one writes two bytes for each AND of the next level, and the next one gets as many
  pub sent-length : (k : ℕ) (m : RoundMade) → IsRound (rounds_of calls) k m → length (bits_by m.gave) ≡ 2 * ands_at_level c (suc k)
  sent-length k m e = (moves_at k m e).1.writes.bits-length ∙ (progress.stands circuit c read calls stays k m e).written

  pub got-length : (k : ℕ) (m : RoundMade) → IsRound (rounds_of calls) (suc k) m → length m.got.far ≡ 2 * ands_at_level c (suc k)
  got-length k m e =
      let b = call_before k (rounds_of calls) e in
      (moves_at k b.0 b.1).1.next m.got (ap read_circuit (stays (suc k) m e) ∙ read)
      (next-call round_laws fresh_state calls k b.1 e).1
      ∙ (progress.stands circuit c read calls stays k b.0 b.1).written

-- ---- both runs

module _ (circuit : List ℕ) (c : Circuit) (read : read_circuit circuit ≡ Whole c) {role role' : ℕ} {shares triples shares' triples' : List ℕ}
    {got sent got' sent' : BitsByAnd} {outputs outputs' : List ℕ} where
  module _ (run : InRounds circuit c role shares triples got sent outputs)
      (far : InRounds circuit c role' shares' triples' got' sent' outputs') where
    stays : RoundsOn circuit (rounds_of run.calls)
    stays n r h = (run.unaltered n r h).own-circuit

    stays' : RoundsOn circuit (rounds_of far.calls)
    stays' n r h = (far.unaltered n r h).own-circuit

    -- the bits by AND are all bytes
    whole-rounds : SameByAnd c got sent' → ReceivesRounds (rounds_of run.calls) (rounds_of far.calls)
    whole-rounds same k m f e g =
        let long = got-length circuit c read run.calls stays k m e in
        ext_get_or 0 m.got.far (bits_by f.gave) (long ∙ sym (sent-length circuit c read far.calls stays' k f g))
        (λ p h.
        let r = and-of (suc k) (p / 2) c.gates (drop c.inputs (levels c)) (omega (arith, long)) in
        let i : ℕ = r.0 in
        let j : ℕ = ands_before c i in
        let below = and_before c i r.1 in
        let level : level_at c i ≡ suc k = sym (get_or-drop c.inputs (levels c) i 0) ∙ r.2 in
        let place : place_at c i ≡ 2 * (p / 2) =
        ap (λ (n : ℕ). 2 * ands_of n (take i c.gates) (drop c.inputs (levels c))) level ∙ ap (λ (n : ℕ). 2 * n) r.3 in
        pairs_same m.got.far (bits_by f.gave) p
        (subst (λ (n : ℕ). pair_at m.got.far n ≡ pair_at (bits_by f.gave) n) place
        (sym (Rounds.far-got circuit c read role shares triples run.calls run.unaltered i r.1 m
        (subst (λ (n : ℕ). IsRound (rounds_of run.calls) n m) (sym level) e))
        ∙ run.each-got j below ∙ same j below ∙ sym (far.each-sent j below)
        ∙ ap (sent_at_gate c (rounds_of far.calls)) (gate-of c.gates i r.1)
        ∙ ap (λ (l : List ℕ). pair_at l (place_at c i))
        (made_at (λ (z : RoundMade). bits_by z.gave) [] (rounds_of far.calls) (level_at c i - 1)
        (subst (λ (n : ℕ). IsRound (rounds_of far.calls) n f) {x = k} {y = level_at c i - 1} (omega arith) g)))))

    in-rounds : SameByAnd c got sent' ↔ ReceivesRounds (rounds_of run.calls) (rounds_of far.calls)
    in-rounds = (
      whole-rounds,
      λ receives j h.
          sym (run.each-got j h)
          ∙ by_and_lem c (far_in_rounds c (rounds_of run.calls)) (sent_in_rounds c (rounds_of far.calls))
          (Rounds.received c (admitted circuit c read).gates run.calls far.calls receives run.number far.number run.last
          far.last
          run.is_last far.is_last
          (Rounds.levels_passed circuit c read run.calls stays run.number run.last run.is_last run.finished)
          (Rounds.levels_passed circuit c read far.calls stays' far.number far.last far.is_last far.finished)) j h
          ∙ far.each-sent j h,
    )

  module _ (run : InSteps circuit c role shares triples got sent outputs)
      (far : InSteps circuit c role' shares' triples' got' sent' outputs') where
    on : OnCircuit circuit (steps_of run.calls)
    on n r h = (run.unaltered n r h).own-circuit

    whole-steps : SameByAnd c got sent' → Receives (steps_of run.calls) (steps_of far.calls)
    whole-steps same k before m f b one e g =
        let early : k < ands_in c.gates =
        split k (ands_in c.gates) (λ h. h)
        (λ h. absurd (let two = (Progresses.finishes circuit c read run.calls on k before b).1 h in omega arith)) in
        let is =
        sym (made_at (λ (z : StepMade). (z.got.far_first, z.got.far_second)) (0, 0) (steps_of run.calls) (suc k) e)
        ∙ run.each-got k early ∙ same k early ∙ sym (far.each-sent k early)
        ∙ made_at (λ (z : StepMade). (z.gave.first_bit, z.gave.second_bit)) (0, 0) (steps_of far.calls) k g in
        (ap (λ (q : ℕ × ℕ). q.0) is, ap (λ (q : ℕ × ℕ). q.1) is)

    in-steps : SameByAnd c got sent' ↔ Receives (steps_of run.calls) (steps_of far.calls)
    in-steps = (
      whole-steps,
      λ receives j h.
          sym (run.each-got j h)
          ∙ received circuit c read run.calls far.calls on receives run.number far.number run.last far.last
          run.is_last far.is_last
          (late circuit c read role shares triples run.calls run.unaltered run.number run.last run.is_last run.finished)
          (late circuit c read role' shares' triples' far.calls far.unaltered far.number far.last far.is_last
          far.finished) j h
          ∙ far.each-sent j h,
    )

pub received_by_and : ReceivedByAnd
received_by_and =
    record {
      rounds = λ circuit c read run far. in-rounds circuit c read run far;
      steps = λ circuit c read run far. in-steps circuit c read run far;
    }
