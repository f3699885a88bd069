-- `ends_bench::batch::write_batch`: the strips from `i` on are summed.
use Rattle.aes128.specs.Inner.Words.{round_keys}
use Rattle.ends_bench.proofs.Strips.{Down}
use Rattle.ends_bench.proofs.batch.write_batch.Given as goal

abbrev pub invariant-loop-i : goal.invariant-loop-i
invariant-loop-i l = Down (round_keys l.keys) l.vector l.window l.i l.rows l.out
