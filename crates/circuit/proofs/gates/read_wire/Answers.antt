-- `circuit::gates::read_wire` meets its contract: the number, then its test. Assumes nothing.
use Rattle.std.proofs.Common.{rules}
use lib.Dec.{ltb}
use Rattle.number.proofs.Tests.{tested_number}
use Rattle.circuit.specs.Reading.{read_wire}
use Rattle.circuit.proofs.gates.read_wire.Goals as goal

pub returns : goal.returns
unfolding read_wire
returns c =
    rw (← c.read_number.ensures) (tested_number (λ w. ltb w c.args.limit) _ _ _ c.tested.ensures (λ x b p. search rules))
