-- `circuit_gates::bytes::opened_byte` meets its contract. Assumes nothing.
use Rattle.circuit_gates.proofs.Leaves.{opened_is, opened-small}
use Rattle.circuit_gates.proofs.bytes.opened_byte.Goals as goal

pub known_as-requires : goal.known_as-requires
known_as-requires c =
    let o = c.args.opening in
    opened-small o.role c.args.x c.args.y o.triples.now o.ands o.far_bits.now o.passed c.share_of.ensures c.share_of-2.ensures c.opened_share-share.ensures
    c.requires

pub returns : goal.returns
returns c =
    let o = c.args.opening in
    rw c.known_as.ensures
    (opened_is o.role c.args.x c.args.y o.triples.now o.ands o.far_bits.now o.passed c.share_of.ensures c.share_of-2.ensures c.opened_share-share.ensures)
