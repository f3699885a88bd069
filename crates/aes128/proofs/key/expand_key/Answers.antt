-- Each round key follows from the one before.
use Rattle.std.proofs.Common.{rules, refl, ap, ◌∙◌, get_or, []}
use Rattle.aes128.specs.Inner.Steps.{next_key}
use Rattle.aes128.proofs.Expansion.{expanded_none, expanded_next, expanded_all, constant}
use Rattle.aes128.proofs.key.expand_key.Goals as goal

pub loop-i-init : goal.loop-i-init
loop-i-init c = expanded_none (search rules) refl refl

pub loop-i-preserved : goal.loop-i-preserved
loop-i-preserved c =
    expanded_next (search rules) c.loop-i-test.true c.loop-i.invariant
    (c.next_key.ensures ∙ ap (λ x. next_key x (get_or c.loop-i.keys c.loop-i.i [])) (constant c.loop-i.i c.loop-i-test.true))

pub returns : goal.returns
returns c = expanded_all c.loop-i.invariant c.loop-i-test.false
