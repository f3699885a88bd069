-- `answer::lengths::is_times` meets its contract: a length with a rest is no such number. Assumes nothing.
use Rattle.std.proofs.Common.{◌∙◌, ne_eqb}
use Rattle.answer.proofs.Products.{times-rest}
use Rattle.answer.proofs.lengths.is_times.Goals as goal

pub returns-else-len-width-eq0 : goal.returns-else-len-width-eq0
returns-else-len-width-eq0 c = ne_eqb _ _ c.if-len-width-eq0.false ∙ times-rest _ _ _ c.requires c.if-len-width-eq0.false
