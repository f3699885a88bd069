-- `ends_bench::accepted::write_scalar` meets its contract: refused by its number, or accepted with the window written. Assumes nothing.
use Rattle.answer.proofs.Answers.{refused-one}
use Rattle.answer.proofs.Refusals.{refusal-counts}
use Rattle.ends.specs.Scalar.Bench as scalar
use Rattle.ends_bench.proofs.Calls.{scalar-within, scalar_fits, scalar-written}
use Rattle.ends_bench.proofs.accepted.write_scalar.Goals as goal

pub returns-in-Err : goal.returns-in-Err
unfolding scalar.bench_window
returns-in-Err c = rw c.refused.ensures (refused-one _ _ _ c.in-Err.ensures (refusal-counts _) _)

pub write_w-requires : goal.write_w-requires
write_w-requires c = scalar_fits _ _ _ c.in_default.ensures c.args.accepted.sizes.outputs

pub words_for-requires : goal.words_for-requires
words_for-requires c = scalar-within c.args.accepted.layout c.args.window _ c.in_default.ensures c.args.accepted.sizes.outputs

pub returns : goal.returns
returns c = scalar-written _ _ _ _ c.in_default.ensures c.words_for.ensures c.write_w.ensures
