-- `expander::signed_amounts::expander_write_amount` meets its contract: the amount is passed on by its bits, and it fits.
use mathlib.Core.Path.{ap, ◌∙◌}
use mir.Facts.{to_z-of_z}
use Rattle.amounts.specs.Calls.{write_amount}
use Rattle.page_two.proofs.Amounts.{write-returned}
use Rattle.expander.proofs.signed_amounts.expander_write_amount.Goals as goal

pub returns : goal.returns
returns c = write-returned _ _ (c.write_amount.ensures ∙ ap write_amount (to_z-of_z c.ranges.amount))
