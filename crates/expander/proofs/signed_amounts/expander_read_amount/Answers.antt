-- `signed_amounts::expander_read_amount` meets the page's contract. Assumes nothing.
use Rattle.page_two.proofs.Amounts.{read-returned}
use Rattle.expander.proofs.signed_amounts.expander_read_amount.Goals as goal

pub returns : goal.returns
returns c = search read-returned
