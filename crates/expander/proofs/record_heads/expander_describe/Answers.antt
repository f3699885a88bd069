-- `record_heads::expander_describe` meets the page's contract. Assumes nothing.
use Rattle.page_two.proofs.Descriptions.{describe-returned}
use Rattle.expander.proofs.record_heads.expander_describe.Goals as goal

pub returns : goal.returns
returns c = search describe-returned
