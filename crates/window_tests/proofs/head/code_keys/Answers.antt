-- `window_tests::head::code_keys` meets its contract. Assumes nothing.
use Rattle.window.proofs.Blocks.{keys_at}
use Rattle.window_tests.proofs.head.code_keys.Goals as goal

pub returns : goal.returns
returns c = search keys_at
