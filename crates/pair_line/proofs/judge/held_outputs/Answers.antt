-- `pair_line::judge::held_outputs` meets its contract: the words of both ends' outputs are counted. Assumes nothing.
use borrow.Author.Rules.{rules}
use Rattle.pair_line.proofs.Outputs.{u-room, pairs_room, outputs-found}
use Rattle.pair_line.proofs.judge.held_outputs.Goals as goal

pub count_held-requires : goal.count_held-requires
count_held-requires c = (search rules, search u-room, search pairs_room, search pairs_room)

pub returns : goal.returns
returns c = search outputs-found
