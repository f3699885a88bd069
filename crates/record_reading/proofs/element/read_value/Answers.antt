-- `record_reading::element::read_value` meets its contract: 1, or a word and its test. Assumes nothing.
use Rattle.std.proofs.Common.{ℕ, sym, ap, ◌∙◌, rules}
use Rattle.field.specs.ByNumber.{is_noise}
use Rattle.number.proofs.Places.{choose_no}
use Rattle.number.proofs.Tests.{tested_number}
use Rattle.number.specs.Reading.{Parsed, tested}
use Rattle.record.specs.Reading.{read_value}
use Rattle.record_reading.proofs.element.read_value.Goals as goal

pub returns-then-one_noise : goal.returns-then-one_noise
unfolding read_value
returns-then-one_noise c = rw (sym c.one_noise.ensures ∙ c.if-one_noise.true)

pub returns : goal.returns
unfolding read_value
returns c =
    (tested_number (is_noise c.args.field) _ _ _ c.tested.ensures (λ x b p. search rules) ∙ ap (λ (r : Parsed ℕ). tested r (is_noise c.args.field) 5) c.read_word.ensures)
    ∙ sym (choose_no _ _ (sym c.one_noise.ensures ∙ c.if-one_noise.false))
