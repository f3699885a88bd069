-- `ends_bench::entries::pass_terms`: the sums of the rows before this one are carried on.
use Rattle.ends_bench.specs.Inner.Rows.{SumsMore}
use Rattle.ends_bench.proofs.entries.pass_terms.Given as goal

abbrev pub invariant-loop-row : goal.invariant-loop-row
invariant-loop-row l = SumsMore l.field l.row-index l.initial.rows l.rows
