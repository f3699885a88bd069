-- `window_rows::walk::write_row` meets its contract, field by field. Assumes nothing.
use Rattle.window.proofs.Filled.{row-binary, row-prime}
use Rattle.window_rows.proofs.walk.write_row.Goals as goal

pub returns-then-rows-eq-BINARY : goal.returns-then-rows-eq-BINARY
returns-then-rows-eq-BINARY c = search row-binary

pub returns : goal.returns
returns c = search row-prime
