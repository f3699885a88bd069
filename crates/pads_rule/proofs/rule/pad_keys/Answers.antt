-- `pads_rule::rule::pad_keys` meets its contract: the key written out is that of sixteen bytes FF.
use Rattle.pads.specs.Pad.{pad_key}
use Rattle.pads_rule.proofs.rule.pad_keys.Goals as goal

pub returns : goal.returns
unfolding pad_key
returns c = c.schedule.ensures
