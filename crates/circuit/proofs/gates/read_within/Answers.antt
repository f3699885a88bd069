-- `circuit::gates::read_within` meets its contract: the number, then its test. Assumes nothing.
use Rattle.std.proofs.Common.{rules}
use Rattle.number.proofs.Tests.{tested_number}
use Rattle.circuit.specs.Admitted.{is_within}
use Rattle.circuit.specs.Reading.{read_within}
use Rattle.circuit.proofs.gates.read_within.Goals as goal

pub returns : goal.returns
unfolding read_within
returns c =
    rw (← c.read_number.ensures) (tested_number (λ n. is_within c.args.least c.args.most n) _ _ _ c.tested.ensures (λ x b p. search rules))
