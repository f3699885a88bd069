-- `ends_bench_leaves::values::value_at` meets its contract, by the vector. Assumes nothing.
use Rattle.ends_bench_leaves.proofs.Leaves.{mu_value, leaves-value}
use Rattle.ends_bench_leaves.proofs.vector.Vector.value_at.Goals as goal

pub returns-then-self-eq1 : goal.returns-then-self-eq1
returns-then-self-eq1 c = search mu_value

pub returns : goal.returns
returns c = search leaves-value
