-- `circuit_step::accepted::accepted_step` meets its contract: one law for each return. Assumes nothing.
use Rattle.circuit_run.proofs.Steps.{finished-phase, step-again, step_waits, step-finishes}
use Rattle.circuit_step.proofs.accepted.accepted_step.Goals as goal

pub returns-in_default : goal.returns-in_default
returns-in_default c =
    step-again c.args.step.asked c.args.state c.args.output.now c.requires (finished-phase c.args.step.circuit.source.now c.args.step.circuit.layout c.args.state.phase c.args.state.gate c.args.run c.in_default.not-Going c.requires.runs)
    c.finish.ensures.0 c.finish.ensures.1

pub returns-in_default-reached : goal.returns-in_default-reached
returns-in_default-reached c =
    step-finishes c.args.step.asked c.args.state c.args.output.now c.requires c.in-Going.waiting (rw c.in-Going.is at c.requires.runs) c.in_default-reached.ensures
    c.finish-in_default-reached.ensures.0 c.finish-in_default-reached.ensures.1

pub returns : goal.returns
returns c =
    step_waits c.args.step.asked c.args.state c.args.output.now c.requires c.in-Going.waiting (rw c.in-Going.is at c.requires.runs) c.in-Some.ensures
