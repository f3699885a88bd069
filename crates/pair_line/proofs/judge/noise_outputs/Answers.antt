-- `pair_line::judge::noise_outputs` meets its contract: both calls are accepted. Assumes nothing.
use Rattle.pair_line.proofs.Outputs.{noise-front, noise-in, v_front, v_in, noise-values}
use Rattle.pair_line.proofs.judge.noise_outputs.Goals as goal

pub slice_bounds-noise-end : goal.slice_bounds-noise-end
slice_bounds-noise-end c = search noise-in

pub slice_bounds-online-end : goal.slice_bounds-online-end
slice_bounds-online-end c = search noise-front

pub slice_bounds-v-end : goal.slice_bounds-v-end
slice_bounds-v-end c = search v_in

pub slice_bounds-online-end-2 : goal.slice_bounds-online-end-2
slice_bounds-online-end-2 c = search v_front

pub returns : goal.returns
returns c = search noise-values
