-- `record_head::head::skip` meets its contract: one answer for each return. Assumes nothing.
use Rattle.std.proofs.Common.{sym, ◌∙◌}
use Rattle.record.specs.Inner.Answers.{skipped}
use Rattle.record_head.proofs.head.skip.Goals as goal

pub returns-then-not-has_bytes : goal.returns-then-not-has_bytes
unfolding skipped
returns-then-not-has_bytes c = rw (sym c.has_bytes.ensures ∙ c.if-not-has_bytes.true)

pub returns : goal.returns
unfolding skipped
returns c = rw (sym c.has_bytes.ensures ∙ c.if-not-has_bytes.false)
