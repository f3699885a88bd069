-- `record_describe::scalar_head` meets its contract: the number of the record's fault, or the head that was read. Assumes nothing.
use Rattle.std.proofs.Common.{◌∙◌}
use Rattle.record_describe.proofs.Returns.{scalar-fault, scalar-reads, scalar-accepted}
use Rattle.record_describe.proofs.scalar_head.Goals as goal

pub accepted-requires : goal.accepted-requires
accepted-requires c = let r = scalar-reads _ c.in-Ok.ensures in (r.depth, r.field, r.key, r.room)

pub returns-in-Ok : goal.returns-in-Ok
returns-in-Ok c = c.accepted.ensures ∙ scalar-accepted _ c.in-Ok.ensures

pub returns-in-Err : goal.returns-in-Err
returns-in-Err c = c.refused.ensures ∙ scalar-fault _ c.in-Err.ensures
