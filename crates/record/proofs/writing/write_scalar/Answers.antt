-- `record::writing::write_scalar` meets its contract: the head, Δ and the roots one after the other. Assumes nothing.
use Rattle.record.proofs.Writes.{scalar-head, scalar-delta, scalar-roots, scalar-wrote}
use Rattle.record.proofs.writing.write_scalar.Goals as goal

pub write_head-at-requires : goal.write_head-at-requires
write_head-at-requires c = search scalar-head

pub write_element-next-requires : goal.write_element-next-requires
write_element-next-requires c = search scalar-delta

pub write_bytes-requires : goal.write_bytes-requires
write_bytes-requires c = search scalar-roots

pub returns : goal.returns
returns c = search scalar-wrote
