-- `record::writing::write_head` meets its contract: each part is stored after the one before it. Assumes nothing.
use Rattle.record.proofs.Writes.{head-room_0, head-room_1, head-sizes, head-key, head-label, head-wrote}
use Rattle.record.proofs.writing.write_head.Goals as goal

pub bounds-buffer-0 : goal.bounds-buffer-0
bounds-buffer-0 c = search head-room_0

pub bounds-buffer-1 : goal.bounds-buffer-1
bounds-buffer-1 c = search head-room_1

pub write_sizes-at-requires : goal.write_sizes-at-requires
write_sizes-at-requires c = search head-sizes

pub write_bytes-next-requires : goal.write_bytes-next-requires
write_bytes-next-requires c = search head-key

pub write_bytes-requires : goal.write_bytes-requires
write_bytes-requires c = search head-label

pub returns : goal.returns
returns c = search head-wrote
