-- `ends_calls::scalar::offline` meets its contract: one law for each return. Assumes nothing.
use Rattle.ends_calls.proofs.Calls.{front-size, scalar-fault, w_short, delta-short, scalar-expanded}
use Rattle.ends_calls.proofs.scalar.offline.Goals as goal

pub returns-in-Err : goal.returns-in-Err
returns-in-Err c = rw c.refused.ensures (scalar-fault _ c.in-Err.ensures _ _)

pub returns-then-w-words : goal.returns-then-w-words
returns-then-w-words c = rw (← c.in-Ok.ensures.0) (rw c.refused-then-w-words.ensures (w_short _ c.in-Ok.record.accepted _ _ c.vector_words-words.ensures c.if-w-words.true))

pub returns-then-delta-lt2 : goal.returns-then-delta-lt2
returns-then-delta-lt2 c =
    rw (← c.in-Ok.ensures.0) (rw c.refused-then-delta-lt2.ensures
    (delta-short _ c.in-Ok.record.accepted _ _ c.vector_words-words.ensures c.if-w-words.false c.if-delta-lt2.true))

pub write_accumulated-requires : goal.write_accumulated-requires
write_accumulated-requires c = search front-size

pub returns : goal.returns
returns c =
    rw (← c.in-Ok.ensures.0) (scalar-expanded _ c.in-Ok.record.accepted _ _ c.vector_words-words.ensures c.if-w-words.false c.if-delta-lt2.false c.write_accumulated.ensures
    c.write_delta.ensures)
