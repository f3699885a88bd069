-- Each column from its one lookup.
use Rattle.aes_rows.specs.Inner.Row.{second_of}
use Rattle.aes_rows.proofs.second_round.Goals as goal

pub returns : goal.returns
unfolding second_of
returns c = cc
