-- `ends_bench::batch::value_width` meets its contract. Assumes nothing.
use Rattle.ends_bench.proofs.Strips.{noise-width, element-width}
use Rattle.ends_bench.proofs.batch.value_width.Goals as goal

pub returns-then-vector-eq1 : goal.returns-then-vector-eq1
returns-then-vector-eq1 c = search noise-width

pub returns-else-vector-eq1 : goal.returns-else-vector-eq1
returns-else-vector-eq1 c = search element-width
