-- `ends_bench::accepted::write_noise` meets its contract: refused by its number, or accepted with the window written. Assumes nothing.
use Rattle.answer.proofs.Answers.{refused-two}
use Rattle.answer.proofs.Refusals.{refusal-counts}
use Rattle.ends.specs.Noise.Bench as noise
use Rattle.ends_bench.proofs.Calls.{noise-within, noise-fits, noise-written}
use Rattle.ends_bench.proofs.accepted.write_noise.Goals as goal

pub returns-in-Err : goal.returns-in-Err
unfolding noise.bench_window
returns-in-Err c = rw c.refused.ensures (refused-two _ _ _ c.in-Err.ensures (refusal-counts _) _)

pub write_both-requires : goal.write_both-requires
write_both-requires c = noise-fits _ _ _ _ c.in_default.ensures c.args.accepted.sizes.outputs

pub words_for-requires : goal.words_for-requires
words_for-requires c = noise-within c.args.accepted.layout c.args.window _ _ c.in_default.ensures c.args.accepted.sizes.outputs

pub returns : goal.returns
returns c = noise-written _ _ _ _ _ c.in_default.ensures c.words_for.ensures c.write_both.ensures
