-- `circuit::passing::GatesIterator::next` meets its contract: the first gate is read, and those after it are left. Assumes nothing.
use Rattle.circuit.proofs.Lists.{gates-first, gates-later}
use Rattle.circuit.proofs.passing.GatesIterator.next.Goals as goal

pub known_gate-gate-requires : goal.known_gate-gate-requires
known_gate-gate-requires c = gates-first c.args.self.now.wire c.args.self.now.source.now c.args.self.now.at c.args.self.now.whole c.if-left-eq0.false

pub invariant_of-self-clause-whole : goal.invariant_of-self-clause-whole
invariant_of-self-clause-whole c =
    gates-later c.args.self.now.wire c.args.self.now.source.now c.args.self.now.at c.args.self.now.whole c.if-left-eq0.false c.known_gate-gate.ensures.gate
