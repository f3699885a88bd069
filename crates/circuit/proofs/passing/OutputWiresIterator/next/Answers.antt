-- `circuit::passing::OutputWiresIterator::next` meets its contract: the first wire is read, and those after it are left. Assumes nothing.
use Rattle.circuit.proofs.Lists.{wires-first, wires-later}
use Rattle.circuit.proofs.passing.OutputWiresIterator.next.Goals as goal

pub known_wire-wire-requires : goal.known_wire-wire-requires
known_wire-wire-requires c = wires-first c.args.self.now.limit c.args.self.now.source.now c.args.self.now.at c.args.self.now.whole c.if-left-eq0.false

pub invariant_of-self : goal.invariant_of-self
invariant_of-self c =
    record { whole = wires-later c.args.self.now.limit c.args.self.now.source.now c.args.self.now.at c.args.self.now.whole c.if-left-eq0.false c.known_wire-wire.ensures.wire }
