-- `circuit::again::known_wire` meets its contract. Assumes nothing.
use Rattle.circuit.proofs.Second.{known-wire, wire_known, wire_known-below}
use Rattle.circuit.proofs.again.known_wire.Goals as goal

pub known_number-requires : goal.known_number-requires
known_number-requires c = search known-wire

pub returns : goal.returns
returns c =
    record {
      wire = wire_known c.args.limit c.args.source.now c.args.at c.requires c.known_number.ensures;
      below = wire_known-below c.args.limit c.args.source.now c.args.at c.requires c.known_number.ensures;
    }
