-- Finished runs in rounds are a kind of runs: transcripts, and again on other shares and triples with the bytes that were got. Assumes
-- nothing.
use Prim.Native.Nat.{ℕ, zero, suc, ◌+◌, ◌*◌, ◌%◌, ◌≤◌, ◌<◌}
use mathlib.Core.Bool.{true}
use mathlib.Core.List.{List, []}
use mathlib.Core.Path.{◌≡◌, refl, sym, ap, ◌∙◌, subst}
use native.Mathlib.Omega.{arith}
use lib.ListN.{length, get_or}
use Rattle.circuit.proofs.Exact.{admitted}
use Rattle.circuit.specs.Content.{Circuit, ands_in}
use Rattle.circuit.specs.Reading.{read_circuit}
use Rattle.circuit_claims.proofs.Calls.{call_at, made_at}
use Rattle.circuit_claims.proofs.CircuitCalls.{met_if, first_had, had_some}
use Rattle.circuit_claims.proofs.RoundAccepts.{acceptance}
use Rattle.circuit_claims.proofs.RoundChains.{rounds, round_laws, far-bits}
use Rattle.circuit_claims.proofs.RoundEvaluates.{levels_passed, far-got, transcript}
use Rattle.circuit_claims.proofs.RoundProgresses.{progress}
use Rattle.circuit_claims.proofs.RoundTranscripts.{of_rounds}
use Rattle.circuit_claims.specs.RoundEvaluation.{UnalteredRounds, OwnRound}
use Rattle.circuit_claims.specs.RoundProgress.{RoundsOn}
use Rattle.circuit_claims.specs.RoundRuns.{fresh_state, RoundMade, rounds_of, IsRound, outputs_by}
use Rattle.circuit_claims.specs.Same.{level_at, place_at}
use Rattle.circuit_claims.specs.Transcript.{BitsByAnd, pair_at, far_of_round, far_in_rounds, sent_in_rounds, Transcript}
use Rattle.circuit_run.specs.Round.{RoundLent, round_with, waiting_in}
use Rattle.circuit_run.specs.Step.{is_role}
use Rattle.circuit_hidden.proofs.Agrees.{by_and_lem, told_by}
use Rattle.circuit_hidden.proofs.Hiding.{Kind}
use Rattle.circuit_hidden.proofs.Lists.{from}
use Rattle.circuit_hidden.proofs.Plays.{before, before_first, before_next, made, Accepted, AllAccepted, played_at, played_is}
use Rattle.circuit_hidden.proofs.Received.{got-length}
use Rattle.circuit_hidden.specs.Hidden.{Bits}
use Rattle.circuit_hidden.specs.Run.{SameByAnd, InRounds}
use Rattle.number.proofs.Places.{split}
use Rattle.number.specs.Reading.{Whole}

module _ (circuit : List ℕ) (c : Circuit) (read : read_circuit circuit ≡ Whole c) {role : ℕ} {shares triples : List ℕ} {got sent : BitsByAnd}
    {outputs : List ℕ} (run : InRounds circuit c role shares triples got sent outputs) where
  abbrev own : UnalteredRounds role circuit shares triples (rounds_of run.calls)
  own = run.unaltered

  stays : RoundsOn circuit (rounds_of run.calls)
  stays k m h = (own k m h).own-circuit

  told : Transcript role c shares triples got sent outputs
  told =
      told_by (admitted circuit c read) run.each-got run.each-sent run.wrote
      (transcript circuit c read role shares triples run.calls own run.number run.last run.is_last run.finished
      (of_rounds circuit c read role shares triples run.calls own (far_in_rounds c (rounds_of run.calls))
      (far-got circuit c read role shares triples run.calls own)))

  -- ---- the run again

  module _ (x T : List ℕ) (xs : Bits c.inputs x) (ts : Bits (3 * ands_in c.gates) T) where
    began : (m : RoundMade) × IsRound (rounds_of run.calls) 0 m
    began = call_at run.number 0 (rounds_of run.calls) run.is_last (omega arith)

    -- round j gets the far bits that it got, and the buffers of the first
    abbrev lent : ℕ → RoundLent
    lent j = round_with role circuit x T began.0.got.output (far_of_round (rounds_of run.calls) j) began.0.got.bits

    far_is : (j : ℕ) (m : RoundMade) → IsRound (rounds_of run.calls) j m → far_of_round (rounds_of run.calls) j ≡ m.got.far
    far_is j m h = made_at (λ (z : RoundMade). z.got.far) [] (rounds_of run.calls) j h

    abbrev Takes : ℕ → Type 0
    Takes j = Accepted rounds fresh_state lent j

    abbrev AllTaken : ℕ → Type 0
    AllTaken n = AllAccepted rounds fresh_state lent n

    first_taken : Takes 0
    first_taken =
        let t = (first_had round_laws fresh_state run.calls circuit read stays began.1).1 in
        let same = far_is 0 began.0 began.1 in
        let far_met : length began.0.got.far ≡ 2 * waiting_in c fresh_state.wires = search t.met.all in
        let far-long : length (far_of_round (rounds_of run.calls) 0) ≡ 2 * waiting_in c fresh_state.wires = ap length same ∙ far_met in
        let far-bit : (n : ℕ) → get_or (far_of_round (rounds_of run.calls) 0) n 0 ≤ 1 =
        (λ n. subst (λ (l : List ℕ). get_or l n 0 ≤ 1) (sym same) (far-bits t n)) in
        let role-met : is_role began.0.got.role ≡ true = search t.met.all in
        let role_is : is_role role ≡ true = ap is_role (sym (own 0 began.0 began.1).own-role) ∙ role-met in
        let three : length T % 3 ≡ 0 = omega (arith, ts.many) in
        let enough : 3 * ands_in c.gates ≤ length T = omega (arith, ts.many) in
        rw (before_first rounds fresh_state lent)
        ((met_if round_laws (lent 0) fresh_state read).0 (record { all = search (t.met.all, xs.many, xs.bit, ts.bit) depth 12 }))

    on_again : (n : ℕ) → AllTaken n → UnalteredRounds role circuit x T (rounds_of (from lent n))
    on_again n all j m h =
        subst (λ (z : RoundMade). OwnRound role circuit x T z.got) (played_is rounds fresh_state lent n all j h).0
        (record { own-role = refl; own-circuit = refl; own-shares = refl; own-triples = refl })

    -- a later one gets as many bits as the one before wrote, in either run
    next-taken : (j : ℕ) → j < run.number → AllTaken (suc j) → Takes (suc j)
    next-taken j h all =
        let a = call_at run.number (suc j) (rounds_of run.calls) run.is_last (omega arith) in
        let u = had_some round_laws fresh_state run.calls circuit read stays (suc j) a.0 a.1 in
        let far = far_is (suc j) a.0 a.1 in
        let wrote = (progress.stands circuit c read (from lent (suc j)) (λ n m g. (on_again (suc j) all n m g).own-circuit) j
        (made rounds fresh_state lent j)
        (played_at rounds fresh_state lent (suc j) all j (omega arith))).written in
        rw (before_next rounds fresh_state lent j)
        (acceptance.goes_on (lent j) (lent (suc j)) (before rounds fresh_state lent j) (all j (omega arith)) refl refl refl refl
        (omega arith) (omega arith)
        (ap length far ∙ got-length circuit c read run.calls stays j a.0 a.1 ∙ sym wrote)
        (λ n. subst (λ (l : List ℕ). get_or l n 0 ≤ 1) (sym far) (far-bits u.2 n)))

    taken : (n : ℕ) → n ≤ suc run.number → AllTaken n
    taken zero h j g = absurd (omega arith)
    taken (suc zero) h j g = subst Takes {x = 0} {y = j} (omega arith) first_taken
    taken (suc (suc n)) h j g =
        let all = taken (suc n) (omega arith) in
        split j (suc n) (all j) (λ l. subst Takes {x = suc n} {y = j} (omega arith) (next-taken n (omega arith) all))

    abbrev calls : List RoundLent
    calls = from lent (suc run.number)

    abbrev all-taken : AllTaken (suc run.number)
    all-taken = taken (suc run.number) (omega arith)

    abbrev last : RoundMade
    last = made rounds fresh_state lent run.number

    again-own : UnalteredRounds role circuit x T (rounds_of calls)
    again-own = on_again (suc run.number) all-taken

    is_last : IsRound (rounds_of calls) run.number last
    is_last = played_at rounds fresh_state lent (suc run.number) all-taken run.number (omega arith)

    -- each AND got what it got
    again-got : SameByAnd c (far_in_rounds c (rounds_of calls)) (far_in_rounds c (rounds_of run.calls))
    again-got =
        by_and_lem c (far_in_rounds c (rounds_of calls)) (far_in_rounds c (rounds_of run.calls))
        (λ i a.
        let passed = levels_passed circuit c read run.calls stays run.number run.last run.is_last run.finished
        (c.inputs + i) in
        let m = call_at run.number (level_at c i) (rounds_of run.calls) run.is_last (omega arith) in
        let n = call_at run.number (level_at c i) (rounds_of calls) is_last (omega arith) in
        far-got circuit c read role x T calls again-own i a n.0 n.1
        ∙ ap (λ (l : List ℕ). pair_at l (place_at c i))
        (ap (λ (z : RoundMade). z.got.far)
        (sym (played_is rounds fresh_state lent (suc run.number) all-taken (level_at c i) n.1).0)
        ∙ far_is (level_at c i) m.0 m.1)
        ∙ sym (far-got circuit c read role shares triples run.calls own i a m.0 m.1))

    again : (sends : BitsByAnd) × (writes : List ℕ) × InRounds circuit c role x T got sends writes
    again = (
      sent_in_rounds c (rounds_of calls),
      outputs_by last.gave,
      record {
        calls = calls;
        unaltered = again-own;
        each-got = λ j h. again-got j h ∙ run.each-got j h;
        each-sent = λ j h. refl;
        number = run.number;
        last = last;
        is_last = is_last;
        finished =
            (progress.stands circuit c read calls (λ n m g. (again-own n m g).own-circuit) run.number last is_last).finished.1
            ((progress.stands circuit c read run.calls stays run.number run.last run.is_last).finished.0 run.finished);
        wrote = refl;
      },
    )

pub in-rounds : (circuit : List ℕ) (c : Circuit) → read_circuit circuit ≡ Whole c → Kind (InRounds circuit c) c
in-rounds circuit c read =
    record {
      told = λ role shares triples got sent outputs run. told circuit c read run;
      again = λ run x T xs ts bits. again circuit c read run x T xs ts;
      renamed = λ same wrote run.
          record {
            calls = run.calls;
            unaltered = run.unaltered;
            each-got = run.each-got;
            each-sent = λ j h. run.each-sent j h ∙ same j h;
            number = run.number;
            last = run.last;
            is_last = run.is_last;
            finished = run.finished;
            wrote = run.wrote ∙ wrote;
          };
    }
