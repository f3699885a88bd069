-- `ends_calls::noise::offline` meets its contract: one law for each return. Assumes nothing.
use Rattle.ends_calls.proofs.Calls.{front-size, noise-fault, noise-short, v_short, noise-expanded}
use Rattle.ends_calls.proofs.noise.offline.Goals as goal

pub returns-in-Err : goal.returns-in-Err
returns-in-Err c = rw c.refused.ensures (noise-fault _ c.in-Err.ensures _ _)

pub returns-then-noise-size : goal.returns-then-noise-size
returns-then-noise-size c = rw (← c.in-Ok.ensures.0) (rw c.refused-then-noise-size.ensures (noise-short _ c.in-Ok.record.accepted _ _ c.leaves-size.ensures c.if-noise-size.true))

pub returns-then-v-words : goal.returns-then-v-words
returns-then-v-words c =
    rw (← c.in-Ok.ensures.0) (rw c.refused-then-v-words.ensures
    (v_short _ c.in-Ok.record.accepted _ _ c.leaves-size.ensures c.if-noise-size.false c.vector_words-words.ensures c.if-v-words.true))

pub write_accumulated-requires : goal.write_accumulated-requires
write_accumulated-requires c = (search front-size, search front-size)

pub returns : goal.returns
returns c =
    rw (← c.in-Ok.ensures.0) (noise-expanded _ c.in-Ok.record.accepted _ _ c.leaves-size.ensures c.if-noise-size.false c.vector_words-words.ensures c.if-v-words.false c.write_accumulated.ensures.0 c.write_accumulated.ensures.1)
