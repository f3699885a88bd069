-- `ends_bench_leaves::table::tree_table`: the trees that were given stand in the table, and those that are left are what is left of the record.
use Rattle.ends_bench_leaves.proofs.Tables.{Filling}
use Rattle.ends_bench_leaves.proofs.table.tree_table.Given as goal

abbrev pub invariant-loop-i : goal.invariant-loop-i
invariant-loop-i l = Filling l.fn.accepted l.i-iterator.iter l.i-iterator.count l.table
