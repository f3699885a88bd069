-- `answer::bytes::any_above` meets its contract: the largest byte so far decides. Assumes nothing.
use Rattle.answer.proofs.Above.{above-start, above_more, above_largest}
use Rattle.answer.proofs.bytes.any_above.Goals as goal

pub loop-byte-init : goal.loop-byte-init
loop-byte-init c = search above-start

pub loop-byte-preserved : goal.loop-byte-preserved
loop-byte-preserved c = search above_more

pub returns : goal.returns
returns c = search above_largest
