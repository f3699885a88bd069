-- `ends_bench::batch::write_outputs`: the first `done` outputs are written.
use Rattle.aes128.specs.Inner.Words.{round_keys}
use Rattle.ends_bench.proofs.Strips.{Windowed}
use Rattle.ends_bench.proofs.batch.write_outputs.Given as goal

abbrev pub invariant-loop-done : goal.invariant-loop-done
invariant-loop-done l = Windowed (round_keys l.keys) l.vector l.window l.initial.out l.done l.out
