-- Finished runs in steps are a kind of runs: transcripts, and again on other shares and triples with the bits that were got, in one step
-- more than there are ANDs. Assumes nothing.
use Prim.Native.Nat.{ℕ, zero, suc, ◌*◌, ◌%◌, ◌≤◌, ◌<◌}
use mathlib.Core.Bool.{true}
use mathlib.Core.List.{List}
use mathlib.Core.Path.{◌≡◌, refl, sym, ap, ◌∙◌, subst}
use native.Mathlib.Omega.{arith}
use lib.Dec.{eqb}
use lib.ListN.{length}
use Rattle.circuit.proofs.Exact.{admitted}
use Rattle.circuit.specs.Content.{Circuit, ands_in}
use Rattle.circuit.specs.Reading.{read_circuit}
use Rattle.circuit_claims.proofs.Accepts.{acceptance}
use Rattle.circuit_claims.proofs.Calls.{call_at, made_at}
use Rattle.circuit_claims.proofs.Chains.{steps, step_laws}
use Rattle.circuit_claims.proofs.CircuitCalls.{met_if, first_had}
use Rattle.circuit_claims.proofs.Evaluates.{of_steps}
use Rattle.circuit_claims.proofs.Progresses.{progress}
use Rattle.circuit_claims.specs.Evaluation.{Own, Unaltered}
use Rattle.circuit_claims.specs.Runs.{fresh, StepMade, steps_of, IsStep, written_by}
use Rattle.circuit_claims.specs.Transcript.{BitsByAnd, sent_in_steps, Transcript}
use Rattle.circuit_run.specs.Step.{StepLent, lent_with, far_admitted, is_role}
use Rattle.circuit_hidden.proofs.Agrees.{told_by}
use Rattle.circuit_hidden.proofs.Hiding.{Kind}
use Rattle.circuit_hidden.proofs.Lists.{from}
use Rattle.circuit_hidden.proofs.Plays.{before, before_first, before_next, made, Accepted, played_at, played_is}
use Rattle.circuit_hidden.specs.Hidden.{Bits}
use Rattle.circuit_hidden.specs.Run.{InSteps}
use Rattle.number.specs.Reading.{Whole}

module _ (circuit : List ℕ) (c : Circuit) (read : read_circuit circuit ≡ Whole c) {role : ℕ} {shares triples : List ℕ} {got sent : BitsByAnd}
    {outputs : List ℕ} (run : InSteps circuit c role shares triples got sent outputs) where
  told : Transcript role c shares triples got sent outputs
  told =
      told_by (admitted circuit c read) run.each-got run.each-sent run.wrote
      (of_steps circuit c read role shares triples run.calls run.unaltered run.number run.last run.is_last run.finished)

  -- ---- the run again

  module _ (x T : List ℕ) (xs : Bits c.inputs x) (ts : Bits (3 * ands_in c.gates) T)
      (bits : (j : ℕ) → j < ands_in c.gates → ((got j).0 ≤ 1) × ((got j).1 ≤ 1)) where
    began : (m : StepMade) × IsStep (steps_of run.calls) 0 m
    began = call_at run.number 0 (steps_of run.calls) run.is_last (omega arith)

    -- step 0 gets no far bits, step j + 1 those of the AND with j before it; the buffer is that of the first
    abbrev far_at : ℕ → ℕ × ℕ
    far_at zero = (0, 0)
    far_at (suc j) = got j

    abbrev lent : ℕ → StepLent
    lent j = lent_with role circuit x T began.0.got.output (far_at j).0 (far_at j).1

    abbrev Takes : ℕ → Type 0
    Takes j = Accepted steps fresh lent j

    first_taken : Takes 0
    first_taken =
        let t = (first_had step_laws fresh run.calls circuit read (λ k m h. (run.unaltered k m h).own-circuit) began.1).1 in
        let far : far_admitted (eqb fresh.phase 1) 0 0 ≡ true = (acceptance.far fresh.phase 0 0).1 (λ z. (omega arith, omega arith)) in
        let role-met : is_role began.0.got.role ≡ true = search t.met.all in
        let role_is : is_role role ≡ true = ap is_role (sym (run.unaltered 0 began.0 began.1).own-role) ∙ role-met in
        let three : length T % 3 ≡ 0 = omega (arith, ts.many) in
        let enough : 3 * ands_in c.gates ≤ length T = omega (arith, ts.many) in
        rw (before_first steps fresh lent) ((met_if step_laws (lent 0) fresh read).0 (record { all = search (t.met.all, xs.many, xs.bit, ts.bit) depth 12 }))

    taken : (j : ℕ) → j < suc (ands_in c.gates) → Takes j
    taken zero h = first_taken
    taken (suc j) h =
        rw (before_next steps fresh lent j)
        (acceptance.goes_on (lent j) (lent (suc j)) (before steps fresh lent j) (taken j (omega arith)) refl refl refl refl (omega arith)
        (bits j (omega arith)).0 (bits j (omega arith)).1)

    abbrev calls : List StepLent
    calls = from lent (suc (ands_in c.gates))

    abbrev last : StepMade
    last = made steps fresh lent (ands_in c.gates)

    step_at : (j : ℕ) → j < suc (ands_in c.gates) → IsStep (steps_of calls) j (made steps fresh lent j)
    step_at = played_at steps fresh lent (suc (ands_in c.gates)) taken

    again-own : Unaltered role circuit x T (steps_of calls)
    again-own j m h =
        subst (λ (z : StepMade). Own role circuit x T z.got) (played_is steps fresh lent (suc (ands_in c.gates)) taken j h).0
        (record { own-role = refl; own-circuit = refl; own-shares = refl; own-triples = refl })

    again : (sends : BitsByAnd) × (writes : List ℕ) × InSteps circuit c role x T got sends writes
    again = (
      sent_in_steps (steps_of calls),
      written_by last.gave,
      record {
        calls = calls;
        unaltered = again-own;
        each-got = λ j h.
            made_at (λ (z : StepMade). (z.got.far_first, z.got.far_second)) (0, 0) (steps_of calls) (suc j)
            (step_at (suc j) (omega arith));
        each-sent = λ j h. refl;
        number = ands_in c.gates;
        last = last;
        is_last = step_at (ands_in c.gates) (omega arith);
        finished =
            (progress.finishes circuit c read calls (λ k m h. (again-own k m h).own-circuit) (ands_in c.gates) last
            (step_at (ands_in c.gates) (omega arith))).1 (omega arith);
        wrote = refl;
      },
    )

pub in-steps : (circuit : List ℕ) (c : Circuit) → read_circuit circuit ≡ Whole c → Kind (InSteps circuit c) c
in-steps circuit c read =
    record {
      told = λ role shares triples got sent outputs run. told circuit c read run;
      again = λ run x T xs ts bits. again circuit c read run x T xs ts bits;
      renamed = λ same wrote run.
          record {
            calls = run.calls;
            unaltered = run.unaltered;
            each-got = run.each-got;
            each-sent = λ j h. run.each-sent j h ∙ same j h;
            number = run.number;
            last = run.last;
            is_last = run.is_last;
            finished = run.finished;
            wrote = run.wrote ∙ wrote;
          };
    }
