-- `pair_line::judge::scalar_outputs` meets its contract: both calls are accepted. Assumes nothing.
use Rattle.pair_line.proofs.Outputs.{w_front, w_in, scalar-values}
use Rattle.pair_line.proofs.judge.scalar_outputs.Goals as goal

pub slice_bounds-w-end : goal.slice_bounds-w-end
slice_bounds-w-end c = search w_in

pub slice_bounds-online-end : goal.slice_bounds-online-end
slice_bounds-online-end c = search w_front

pub returns : goal.returns
returns c = search scalar-values
