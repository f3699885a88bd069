-- `circuit_round::tests::waiting_gates` meets its contract. Assumes nothing.
use Prim.Native.Nat.{ℕ, ◌+◌, ◌-◌}
use mathlib.Core.Path.{ap, ◌∙◌}
use native.Mathlib.Omega.{arith}
use lib.ListN.{take, drop}
use Rattle.circuit.proofs.Ands.{byte_of}
use Rattle.circuit_run.proofs.Waiting.{count-start, count_next, count_done}
use Rattle.circuit_run.specs.Round.{waiting}
use Rattle.circuit_round.proofs.tests.waiting_gates.Goals as goal

pub loop-byte-init : goal.loop-byte-init
loop-byte-init c = count-start _

pub loop-byte-preserved : goal.loop-byte-preserved
loop-byte-preserved c = count_next c.loop-byte.invariant c.loop-byte-test.true (c.from-count.ensures ∙ byte_of _)

pub returns : goal.returns
returns c =
    count_done c.loop-byte.invariant c.loop-byte-test.false
    ∙ ap (λ (n : ℕ). waiting (take n (drop c.args.layout.inputs c.args.wires.now)))
    {x = c.args.layout.inputs + c.args.layout.gates - c.args.layout.inputs} {y = c.args.layout.gates} (omega arith)
