-- `ends_bench::accepted::check_scalar` meets its contract, test by test. Assumes nothing.
use Rattle.answer.proofs.Faults.{chain, given_at_most, given_above}
use Rattle.ends_bench.proofs.accepted.check_scalar.Goals as goal

pub returns-then-is_past : goal.returns-then-is_past
returns-then-is_past c = search chain depth 9

pub returns-then-room-words_for : goal.returns-then-room-words_for
returns-then-room-words_for c = search (chain, given_above) depth 9

pub returns : goal.returns
returns c = search (chain, given_at_most) depth 9
