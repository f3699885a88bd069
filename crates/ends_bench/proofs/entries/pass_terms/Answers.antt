-- `ends_bench::entries::pass_terms` meets its contract. Assumes nothing.
use borrow.Author.Rules.{rules}
use Rattle.ends_bench.proofs.Rows.{passed_none, passed_more}
use Rattle.ends_bench.proofs.entries.pass_terms.Goals as goal

pub loop-row-init : goal.loop-row-init
loop-row-init c = search passed_none

pub loop-row-preserved : goal.loop-row-preserved
loop-row-preserved c = passed_more _ _ c.loop-row.invariant (search rules) c.noise_sum-row.ensures
