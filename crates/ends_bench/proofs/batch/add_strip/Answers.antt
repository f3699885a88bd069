-- `ends_bench::batch::add_strip` meets its contract. Assumes nothing.
use Rattle.ends_bench.proofs.Strips.{stripped_none, stripped_more, strip-top, strip-most}
use borrow.Author.Rules.{rules}
use Rattle.ends_bench.proofs.batch.add_strip.Goals as goal

pub loop-left-init : goal.loop-left-init
loop-left-init c = (search stripped_none, search strip-top, search strip-most)

pub loop-left-preserved : goal.loop-left-preserved
loop-left-preserved c = (search stripped_more, search rules, search rules)
