-- `ends_bench::accepted::write_both` meets its contract. Assumes nothing.
use Rattle.ends_bench.proofs.Calls.{u_fits, v_fits, both-filled}
use Rattle.ends_bench.proofs.accepted.write_both.Goals as goal

pub write_outputs-requires : goal.write_outputs-requires
write_outputs-requires c = (c.requires.within, u_fits c.requires c.of_noise-mu.ensures)

pub write_outputs-requires-2 : goal.write_outputs-requires-2
write_outputs-requires-2 c = (c.requires.within, v_fits c.requires c.of_noise-v0.ensures)

pub returns : goal.returns
returns c =
    both-filled c.of_noise-mu.ensures c.of_noise-v0.ensures _ c.code_keys-code.ensures _ _ c.write_outputs.ensures c.write_outputs-2.ensures
