-- `record_describe::describe` meets its contract: the end byte says by whose tests the record is read. Assumes nothing.
use Rattle.std.proofs.Common.{sym, ap, ◌∙◌}
use Rattle.answer.specs.declared.Refusal.{Refusal}
use Rattle.answer.specs.Refused.{number_of}
use Rattle.record.specs.Inner.Ends.{end_byte}
use Rattle.record.specs.declared.End.TheVariants.{Noise, Scalar}
use Rattle.record_describe.specs.Describe.{refused}
use Rattle.record_describe.proofs.Returns.{empty_said, noise-said, scalar-said, neither-said}
use Rattle.record_describe.proofs.describe.Goals as goal

pub returns-in_default : goal.returns-in_default
returns-in_default c = empty_said _ c.in_default.ensures.item.3 c.refused.ensures

pub returns-in-Ok-Noise : goal.returns-in-Ok-Noise
returns-in-Ok-Noise c =
    let first = c.in-Some.ensures.item.3 in noise-said _ first.0 (sym (first.1 0) ∙ sym c.in-Ok-Noise.ensures ∙ ap end_byte c.in-Ok-Noise.field-0-is) c.noise_head.ensures

pub returns-in-Ok-Scalar : goal.returns-in-Ok-Scalar
returns-in-Ok-Scalar c =
    let first = c.in-Some.ensures.item.3 in scalar-said _ first.0 (sym (first.1 0) ∙ sym c.in-Ok-Scalar.ensures ∙ ap end_byte c.in-Ok-Scalar.field-0-is) c.scalar_head.ensures

pub returns-in-Err : goal.returns-in-Err
returns-in-Err c =
    let first = c.in-Some.ensures.item.3 in
    let neither = c.in-Err.ensures in
    neither-said _ first.0 (λ e. neither.1 Noise (sym (first.1 0 ∙ e))) (λ e. neither.1 Scalar (sym (first.1 0 ∙ e)))
    (c.refused-in-Err.ensures ∙ ap (λ (r : Refusal). refused (number_of r)) neither.0)
