-- `window_write::used::elements_used` meets its contract, field by field. Assumes nothing.
use Rattle.window.proofs.Passed.{binary-used, below-prime}
use Rattle.window_write.proofs.used.elements_used.Goals as goal

pub returns-then-rows-eq-BINARY : goal.returns-then-rows-eq-BINARY
returns-then-rows-eq-BINARY c = search binary-used

pub returns : goal.returns
returns c = search below-prime
