-- `record_reading::element::read_delta` meets its contract: the words, then their test. Assumes nothing.
use Rattle.std.proofs.Common.{rules}
use Rattle.field.specs.ByNumber.{is_scalar}
use Rattle.record.proofs.Fields.{tested_element}
use Rattle.record.specs.Reading.{read_delta}
use Rattle.record_reading.proofs.element.read_delta.Goals as goal

pub returns : goal.returns
unfolding read_delta
returns c =
    rw (← c.read_words.ensures.value) (tested_element c.args.field (is_scalar c.args.field) _ _ _ c.tested.ensures (λ x b p. search rules))
