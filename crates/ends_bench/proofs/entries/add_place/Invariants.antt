-- `ends_bench::entries::add_place`: the outputs before `k` are added to, the others as they were.
use Rattle.ends_bench.proofs.Rows.{Summed}
use Rattle.ends_bench.proofs.entries.add_place.Given as goal

abbrev pub invariant-loop-k : goal.invariant-loop-k
invariant-loop-k l = Summed l.vector.number l.field l.rows l.j l.value l.initial.out l.out l.k
