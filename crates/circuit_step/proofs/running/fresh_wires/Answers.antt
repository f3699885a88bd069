-- `circuit_step::running::fresh_wires` meets its contract: what is left of zeros is zeros. Assumes nothing.
use mathlib.Core.List.{List, ◌++◌}
use mathlib.Core.Path.{ap₂}
use Prim.Native.Nat.{ℕ}
use lib.ListN.{length}
use Rattle.std.proofs.lemmas.List.{drop-replicate}
use Rattle.circuit_run.specs.Step.{fresh_wires}
use Rattle.circuit_step.proofs.running.fresh_wires.Goals as goal

pub returns : goal.returns
unfolding fresh_wires
returns c = ap₂ (λ (a b : List ℕ). a ++ b) c.copy_from_slice.ensures.after (drop-replicate (length c.args.shares.now) 4096 0)
