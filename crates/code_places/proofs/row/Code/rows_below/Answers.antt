-- `code_places::row::Code::rows_below` meets its contract, row by row. Assumes nothing.
use Rattle.std.proofs.Common.{rules}
use borrow.Author.Tests.{not-false}
use Rattle.code.proofs.Tested.{rows_none, row_more, row_stop}
use Rattle.code_places.proofs.row.Code.rows_below.Goals as goal

pub loop-k-init : goal.loop-k-init
loop-k-init c = search (rules, rows_none)

pub returns-then-not-row_below : goal.returns-then-not-row_below
returns-then-not-row_below c = search row_stop

pub loop-k-preserved : goal.loop-k-preserved
loop-k-preserved c = search (rules, row_more, not-false)
