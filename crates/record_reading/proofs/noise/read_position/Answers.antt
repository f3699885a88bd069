-- `record_reading::noise::read_position` meets its contract: the number, then its test. Assumes nothing.
use Rattle.std.proofs.Common.{rules, ◌-◌, ltb}
use Rattle.answer.proofs.Refusals.{passed_on}
use Rattle.number.proofs.Tests.{tested_number}
use Rattle.record.proofs.Fields.{position-tested}
use Rattle.record_reading.proofs.noise.read_position.Goals as goal

pub returns-in_err-back : goal.returns-in_err-back
returns-in_err-back c =
    rw (
      passed_on c.from_residual.result c.from_residual.ensures.1,
      position-tested c.args.base c.args.all c.args.source.now c.args.at c.requires,
      ← c.read_number.ensures,
      ← tested_number (λ x. ltb x (c.args.all - c.args.base)) _ _ _ c.in_err-back.ensures (λ x b p. search rules),
    )

pub returns : goal.returns
returns c =
    rw (
      position-tested c.args.base c.args.all c.args.source.now c.args.at c.requires,
      ← c.read_number.ensures,
      ← tested_number (λ x. ltb x (c.args.all - c.args.base)) _ _ _ c.in_ok-back.ensures (λ x b p. search rules),
    )
