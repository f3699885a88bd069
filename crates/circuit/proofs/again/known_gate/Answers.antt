-- `circuit::again::known_gate` meets its contract: no test of the reading fails, one law a place. Assumes nothing.
use Rattle.circuit.proofs.Second.{known-kind, known-first, known-first-below, known-not, known-second, known-second-below, known_xor, known_and}
use Rattle.circuit.proofs.again.known_gate.Goals as goal

pub known_number-kind-requires : goal.known_number-kind-requires
known_number-kind-requires c = search known-kind

pub known_number-first-requires : goal.known_number-first-requires
known_number-first-requires c = known-first c.args.wire c.args.source.now c.args.at c.requires {k = c.known_number-kind.result.0} {at1 = c.known_number-kind.result.1} c.known_number-kind.ensures

pub returns-then-kind-eq-NOT : goal.returns-then-kind-eq-NOT
returns-then-kind-eq-NOT c =
    let first = known-first-below c.args.wire c.args.source.now c.args.at c.requires {k = c.known_number-kind.result.0} {at1 = c.known_number-kind.result.1} c.known_number-kind.ensures {a = c.known_number-first.result.0} {at2 = c.known_number-first.result.1} c.known_number-first.ensures in
    record { gate = known-not c.args.wire c.args.source.now c.args.at c.requires {k = c.known_number-kind.result.0} {at1 = c.known_number-kind.result.1} c.known_number-kind.ensures {a = c.known_number-first.result.0} {at2 = c.known_number-first.result.1} c.known_number-first.ensures c.if-kind-eq-NOT.true; below = first }

pub known_number-second-requires : goal.known_number-second-requires
known_number-second-requires c = known-second c.args.wire c.args.source.now c.args.at c.requires {k = c.known_number-kind.result.0} {at1 = c.known_number-kind.result.1} c.known_number-kind.ensures {a = c.known_number-first.result.0} {at2 = c.known_number-first.result.1} c.known_number-first.ensures c.if-kind-eq-NOT.false

pub returns-then-kind-eq-XOR : goal.returns-then-kind-eq-XOR
returns-then-kind-eq-XOR c =
    let first = known-first-below c.args.wire c.args.source.now c.args.at c.requires {k = c.known_number-kind.result.0} {at1 = c.known_number-kind.result.1} c.known_number-kind.ensures {a = c.known_number-first.result.0} {at2 = c.known_number-first.result.1} c.known_number-first.ensures in
    let second = known-second-below c.args.wire c.args.source.now c.args.at c.requires {k = c.known_number-kind.result.0} {at1 = c.known_number-kind.result.1} c.known_number-kind.ensures {a = c.known_number-first.result.0} {at2 = c.known_number-first.result.1} c.known_number-first.ensures c.if-kind-eq-NOT.false {b = c.known_number-second.result.0} {at3 = c.known_number-second.result.1} c.known_number-second.ensures in
    record { gate = known_xor c.args.wire c.args.source.now c.args.at c.requires {k = c.known_number-kind.result.0} {at1 = c.known_number-kind.result.1} c.known_number-kind.ensures {a = c.known_number-first.result.0} {at2 = c.known_number-first.result.1} c.known_number-first.ensures c.if-kind-eq-NOT.false {b = c.known_number-second.result.0} {at3 = c.known_number-second.result.1} c.known_number-second.ensures c.if-kind-eq-XOR.true; below = (first, second) }

pub returns : goal.returns
returns c =
    let first = known-first-below c.args.wire c.args.source.now c.args.at c.requires {k = c.known_number-kind.result.0} {at1 = c.known_number-kind.result.1} c.known_number-kind.ensures {a = c.known_number-first.result.0} {at2 = c.known_number-first.result.1} c.known_number-first.ensures in
    let second = known-second-below c.args.wire c.args.source.now c.args.at c.requires {k = c.known_number-kind.result.0} {at1 = c.known_number-kind.result.1} c.known_number-kind.ensures {a = c.known_number-first.result.0} {at2 = c.known_number-first.result.1} c.known_number-first.ensures c.if-kind-eq-NOT.false {b = c.known_number-second.result.0} {at3 = c.known_number-second.result.1} c.known_number-second.ensures in
    record { gate = known_and c.args.wire c.args.source.now c.args.at c.requires {k = c.known_number-kind.result.0} {at1 = c.known_number-kind.result.1} c.known_number-kind.ensures {a = c.known_number-first.result.0} {at2 = c.known_number-first.result.1} c.known_number-first.ensures c.if-kind-eq-NOT.false {b = c.known_number-second.result.0} {at3 = c.known_number-second.result.1} c.known_number-second.ensures c.if-kind-eq-XOR.false; below = (first, second) }
