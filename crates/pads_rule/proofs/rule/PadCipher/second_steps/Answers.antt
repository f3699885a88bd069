-- `pads_rule::rule::second_steps` meets its contract, by the callees' contracts in their order.
use Rattle.pads_rule.proofs.Needs.{second_is}
use Rattle.pads_rule.proofs.rule.PadCipher.second_steps.Goals as goal

pub returns : goal.returns
returns c = (search second_is, search second_is)
