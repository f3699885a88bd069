-- `record_head::head::read_field` meets its contract: a byte and its test, and another. Assumes nothing.
use Rattle.std.proofs.Common.{rules, eqb}
use Rattle.answer.proofs.Refusals.{passed_on}
use Rattle.field.specs.ByNumber.{is_field}
use Rattle.number.proofs.Tests.{tested_number}
use Rattle.record.specs.Reading.{read_field}
use Rattle.record_head.proofs.head.read_field.Goals as goal

pub returns-in_err-at : goal.returns-in_err-at
unfolding read_field
returns-in_err-at c =
    rw (
      passed_on c.from_residual.result c.from_residual.ensures.1,
      ← c.read_byte.ensures.value,
      ← tested_number (λ e. eqb e c.args.end) _ _ _ c.in_err-at.ensures (λ x b p. search rules),
    )

pub returns : goal.returns
unfolding read_field
returns c =
    rw (← c.read_byte.ensures.value, ← tested_number (λ e. eqb e c.args.end) _ _ _ c.in_ok-at.ensures (λ x b p. search rules), ← c.read_byte-2.ensures.value)
    (tested_number (λ f. is_field f) _ _ _ c.tested-2.ensures (λ x b p. search rules))
