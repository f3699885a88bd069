-- Column 2 from its one lookup.
use Rattle.aes_rows.specs.Inner.Row.{first_of}
use Rattle.aes_rows.proofs.first_round.Goals as goal

pub returns : goal.returns
unfolding first_of
returns c = cc
