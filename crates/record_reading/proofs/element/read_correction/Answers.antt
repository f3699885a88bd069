-- `record_reading::element::read_correction` meets its contract: the words, then their test. Assumes nothing.
use Rattle.std.proofs.Common.{rules}
use Rattle.field.specs.ByNumber.{is_element}
use Rattle.number.proofs.Tests.{tested_keeps}
use Rattle.record.proofs.Fields.{tested_element}
use Rattle.record.specs.Reading.{read_correction}
use Rattle.record_reading.proofs.element.read_correction.Goals as goal

pub returns-clause-value : goal.returns-clause-value
unfolding read_correction
returns-clause-value c =
    rw (← c.read_words.ensures.value) (tested_element c.args.field (is_element c.args.field) _ _ _ c.tested.ensures (λ x b p. search rules))

pub returns-clause-second : goal.returns-clause-second
returns-clause-second c = tested_keeps _ _ _ _ _ c.tested.ensures c.read_words.ensures.second
