-- `record_describe::noise_head` meets its contract: the number of the record's fault, or the head that was read. Assumes nothing.
use Rattle.std.proofs.Common.{◌∙◌}
use Rattle.record_describe.proofs.Returns.{noise-fault, noise-reads, noise-accepted}
use Rattle.record_describe.proofs.noise_head.Goals as goal

pub accepted-requires : goal.accepted-requires
accepted-requires c = let r = noise-reads _ c.in-Ok.ensures in (r.depth, r.field, r.key, r.room)

pub returns-in-Ok : goal.returns-in-Ok
returns-in-Ok c = c.accepted.ensures ∙ noise-accepted _ c.in-Ok.ensures

pub returns-in-Err : goal.returns-in-Err
returns-in-Err c = c.refused.ensures ∙ noise-fault _ c.in-Err.ensures
