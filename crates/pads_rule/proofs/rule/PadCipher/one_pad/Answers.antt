-- `pads_rule::rule::one_pad` meets its contract: the second step of the first step is the pad.
use Rattle.pads.proofs.Steps.{pad_is}
use Rattle.pads_rule.proofs.Needs.{first_is}
use Rattle.pads_rule.proofs.rule.PadCipher.one_pad.Goals as goal

pub returns : goal.returns
returns c = search (pad_is, first_is)
