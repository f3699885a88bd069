-- `window_rows::walk::walk_rows` meets its contract. Assumes nothing.
use mathlib.Core.Path.{refl}
use borrow.Author.Rules.{rules}
use Rattle.window.proofs.Filled.{used_none, filled_none, used_more, filled_more}
use Rattle.window_rows.proofs.walk.walk_rows.Goals as goal

pub loop-k-init : goal.loop-k-init
loop-k-init c = (refl, refl, search used_none, search filled_none)

pub loop-k-preserved : goal.loop-k-preserved
loop-k-preserved c = (search rules, search rules, search used_more, search filled_more)
