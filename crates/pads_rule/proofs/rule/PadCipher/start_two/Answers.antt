-- `pads_rule::steps::start_two` meets its contract: both first steps are made, then written.
use Rattle.pads_rule.proofs.Needs.{put_both, first_is}
use Rattle.pads_rule.proofs.rule.PadCipher.start_two.Goals as goal

pub returns : goal.returns
returns c = search (put_both, first_is)
