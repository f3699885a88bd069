-- `ends_bench_leaves::table::tree_table` meets its contract: the iterator starts with all trees and ends with none. Assumes nothing.
use borrow.Author.Rules.{rules}
use Rattle.ends_bench_leaves.proofs.Tables.{filling_none, filling_more}
use Rattle.ends_bench_leaves.proofs.table.tree_table.Goals as goal

pub loop-i-init : goal.loop-i-init
loop-i-init c =
    let made = c.enumerate-i-items.ensures in
    rw (c.into_iter-i-iterator.ensures.into_iter_gives, made.source, made.count) (filling_none _ c.trees.result c.trees.ensures _ (search rules))

pub loop-i-preserved : goal.loop-i-preserved
loop-i-preserved c =
    let step = c.in-Some.ensures.steps in
    rw (step.2, step.1) (filling_more _ c.loop-i.invariant _ step.0)
