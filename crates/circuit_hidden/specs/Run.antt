-- A finished run of an end by its ANDs, in rounds (circuits in rounds) or in steps (document 02, 9): it is a transcript, and gets for its
-- ANDs what a far run sends exactly if its calls receive it.
use Rattle.std.specs.Prelude.{ℕ, ◌<◌, List, ◌↔◌, ◌≡◌}
use Rattle.circuit.specs.Content.{Circuit, ands_in}
use Rattle.circuit.specs.Reading.{read_circuit}
use Rattle.circuit_claims.specs.Evaluation.{Unaltered, Receives}
use Rattle.circuit_claims.specs.RoundEvaluation.{UnalteredRounds, ReceivesRounds}
use Rattle.circuit_claims.specs.RoundRuns.{RoundMade, rounds_of, IsRound, outputs_by, Finished}
use Rattle.circuit_claims.specs.Runs.{StepMade, steps_of, IsStep, written_by}
use Rattle.circuit_claims.specs.Transcript.{BitsByAnd, far_in_rounds, sent_in_rounds, far_in_steps, sent_in_steps, Transcript}
use Rattle.circuit_run.specs.Round.{RoundLent}
use Rattle.circuit_run.specs.Step.{StepLent}
use Rattle.number.specs.Reading.{Whole}

-- what a finished run has: its role, shares and triples, the bits that it got and the bits that it sent for each AND, and its outputs
abbrev pub Run : Type 1
Run = (role : ℕ) (shares triples : List ℕ) (got sent : BitsByAnd) (outputs : List ℕ) → Type 0

-- two runs have equal bits for each AND
abbrev pub SameByAnd : Circuit → BitsByAnd → BitsByAnd → Type 0
SameByAnd c bits bits' = (j : ℕ) → j < ands_in c.gates → bits j ≡ bits' j

-- there are calls in rounds, refused ones anywhere among them, whose accepted rounds are such a run; one of them has finished it
pub record InRounds (circuit : List ℕ) (c : Circuit) (role : ℕ) (shares triples : List ℕ) (got sent : BitsByAnd)
    (outputs : List ℕ) : Type 0 where
  pub calls : List RoundLent
  pub unaltered : UnalteredRounds role circuit shares triples (rounds_of calls)
  pub each-got : SameByAnd c (far_in_rounds c (rounds_of calls)) got
  pub each-sent : SameByAnd c (sent_in_rounds c (rounds_of calls)) sent
  pub number : ℕ
  pub last : RoundMade
  pub is_last : IsRound (rounds_of calls) number last
  pub finished : Finished last.gave
  pub wrote : outputs_by last.gave ≡ outputs

-- there are calls in steps, refused ones anywhere among them, whose accepted steps are such a run; one of them has finished it
pub record InSteps (circuit : List ℕ) (c : Circuit) (role : ℕ) (shares triples : List ℕ) (got sent : BitsByAnd)
    (outputs : List ℕ) : Type 0 where
  pub calls : List StepLent
  pub unaltered : Unaltered role circuit shares triples (steps_of calls)
  pub each-got : SameByAnd c (far_in_steps (steps_of calls)) got
  pub each-sent : SameByAnd c (sent_in_steps (steps_of calls)) sent
  pub number : ℕ
  pub last : StepMade
  pub is_last : IsStep (steps_of calls) number last
  pub finished : last.gave.state.phase ≡ 2
  pub wrote : written_by last.gave ≡ outputs

-- such a run is a transcript: what it sends and its outputs follow from its role, shares and triples and from what it gets
abbrev pub IsTranscript : Run → Circuit → Type 0
IsTranscript run c =
    (role : ℕ) (shares triples : List ℕ) (got sent : BitsByAnd) (outputs : List ℕ) → run role shares triples got sent outputs
    → Transcript role c shares triples got sent outputs

pub record Transcripts : Type 0 where
  pub rounds : (circuit : List ℕ) (c : Circuit) → read_circuit circuit ≡ Whole c → IsTranscript (InRounds circuit c) c
  pub steps : (circuit : List ℕ) (c : Circuit) → read_circuit circuit ≡ Whole c → IsTranscript (InSteps circuit c) c

-- a finished run got for each AND the bits that a finished far run sent for it exactly if each of its calls got what the far call before
-- sent, all of it
pub record ReceivedByAnd : Type 0 where
  pub rounds : (circuit : List ℕ) (c : Circuit) → read_circuit circuit ≡ Whole c
      → {role role' : ℕ} {shares triples shares' triples' : List ℕ}
      {got sent got' sent' : BitsByAnd} {outputs outputs' : List ℕ}
      (run : InRounds circuit c role shares triples got sent outputs) (far : InRounds circuit c role' shares' triples' got' sent' outputs')
      → SameByAnd c got sent' ↔ ReceivesRounds (rounds_of run.calls) (rounds_of far.calls)
  pub steps : (circuit : List ℕ) (c : Circuit) → read_circuit circuit ≡ Whole c → {role role' : ℕ} {shares triples shares' triples' : List ℕ}
      {got sent got' sent' : BitsByAnd} {outputs outputs' : List ℕ}
      (run : InSteps circuit c role shares triples got sent outputs) (far : InSteps circuit c role' shares' triples' got' sent' outputs')
      → SameByAnd c got sent' ↔ Receives (steps_of run.calls) (steps_of far.calls)
