-- `window_write::used::noise_used` meets its contract, field by field. Assumes nothing.
use Rattle.window.proofs.Passed.{noise-binary, noise-prime}
use Rattle.window_write.proofs.used.noise_used.Goals as goal

pub returns-then-rows-eq-BINARY : goal.returns-then-rows-eq-BINARY
returns-then-rows-eq-BINARY c = search noise-binary

pub returns : goal.returns
returns c = search noise-prime
