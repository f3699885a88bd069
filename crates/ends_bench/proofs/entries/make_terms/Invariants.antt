-- `ends_bench::entries::make_terms`: the terms of the rows before `k` are made.
use Rattle.aes128.specs.Inner.Words.{round_keys}
use Rattle.ends_bench.specs.Inner.Rows.{HasTerms}
use Rattle.ends_bench.proofs.entries.make_terms.Given as goal

abbrev pub invariant-loop-k : goal.invariant-loop-k
invariant-loop-k l = HasTerms (round_keys l.keys) l.layout l.first l.i l.k l.initial.rows l.rows
