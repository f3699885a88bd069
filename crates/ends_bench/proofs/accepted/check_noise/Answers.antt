-- `ends_bench::accepted::check_noise` meets its contract, test by test. Assumes nothing.
use Rattle.answer.proofs.Faults.{chain, given_at_most, given_above}
use Rattle.ends_bench.proofs.accepted.check_noise.Goals as goal

pub returns-then-is_past : goal.returns-then-is_past
returns-then-is_past c = search chain depth 9

pub returns-then-u_room-window : goal.returns-then-u_room-window
returns-then-u_room-window c = search chain depth 9

pub returns-then-v_room-words_for : goal.returns-then-v_room-words_for
returns-then-v_room-words_for c = search (chain, given_above) depth 9

pub returns : goal.returns
returns c = search (chain, given_at_most) depth 9
