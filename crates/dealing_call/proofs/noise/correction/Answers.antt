-- `dealing_call::noise::correction` meets its contract. Assumes nothing.
use Rattle.dealing_call.proofs.Written.{corrected}
use Rattle.dealing_call.proofs.noise.correction.Goals as goal

pub returns : goal.returns
returns c = search corrected
