-- `ends_bench::accepted::write_w` meets its contract. Assumes nothing.
use Rattle.ends_bench.proofs.Calls.{w_fits, w_filled}
use Rattle.ends_bench.proofs.accepted.write_w.Goals as goal

pub write_outputs-requires : goal.write_outputs-requires
write_outputs-requires c = (c.requires.within, w_fits c.of_scalar-w0.ensures _ c.requires)

pub returns : goal.returns
returns c = w_filled c.of_scalar-w0.ensures _ c.code_keys-code.ensures _ c.write_outputs.ensures
