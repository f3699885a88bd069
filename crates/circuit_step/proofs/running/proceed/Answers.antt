-- `circuit_step::running::proceed` meets its contract: the run goes on from the place after the AND, or from the first gate. Assumes nothing.
use Rattle.circuit_step.proofs.Proceeds.{and-after, fresh_start}
use Rattle.circuit_step.proofs.running.proceed.Goals as goal
use Rattle.circuit_step.proofs.running.proceed.Goals.{in-Some, in-None}

pub run_on-requires : goal.run_on-requires
run_on-requires c =
    elim c.match-waiting.branch [
      | in-Some w ↦ let h = rw w.in-Some.is at c.requires.waits in rw w.from-is (and-after c.args.step.circuit.read h)
      | in-None w ↦ rw w.from-is (fresh_start c.args.step.circuit.read)
    ]
