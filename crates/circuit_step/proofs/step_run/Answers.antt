-- `circuit_step::step_run` meets its contract: one law for each return. Assumes nothing.
use mathlib.Core.Path.{refl}
use Rattle.answer.proofs.Refusals.{refusal-counts}
use Rattle.circuit_run.proofs.Steps.{circuit-refused, step-refused, step-accepted}
use Rattle.circuit_step.proofs.step_run.Goals as goal

pub returns-in-Err : goal.returns-in-Err
returns-in-Err c =
    circuit-refused c.args.role c.args.shares.now c.args.triples.now c.args.output.now c.args.far_first c.args.far_second c.in-Err.ensures c.refused.ensures

pub returns-in-Ok-check : goal.returns-in-Ok-check
returns-in-Ok-check c =
    rw (← c.in-Ok.ensures)
    (step-accepted c.args.role c.args.shares.now c.args.triples.now c.args.output.now c.args.far_first c.args.far_second c.args.state c.in-Ok.circuit.read
    c.in-Ok-check.ensures.number refl c.accepted_step.ensures)

pub returns-in-Err-check : goal.returns-in-Err-check
returns-in-Err-check c =
    rw (← c.in-Ok.ensures)
    (step-refused c.args.role c.args.shares.now c.args.triples.now c.args.output.now c.args.far_first c.args.far_second c.args.state c.in-Ok.circuit.read
    c.in-Err-check.ensures.number (refusal-counts c.in-Err-check.refusal) c.refused-in-Err-check.ensures)
