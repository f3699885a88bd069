-- `ends_bench::batch::write_batch` meets its contract. Assumes nothing.
use Rattle.std.proofs.Common.{rules, refl}
use Rattle.ends_bench.proofs.Strips.{batch-none, batch_more, batch-all}
use Rattle.ends_bench.proofs.batch.write_batch.Goals as goal

pub loop-i-init : goal.loop-i-init
loop-i-init c = batch-none _ _ _ c.requires.0 c.requires.2 refl (search rules)

pub loop-i-preserved : goal.loop-i-preserved
loop-i-preserved c = batch_more _ _ _ c.loop-i.invariant (search rules) c.make_terms.ensures c.add_strip.ensures c.pass_terms.ensures

pub returns : goal.returns
returns c = batch-all _ _ _ c.loop-i.invariant c.loop-i-test.false
