-- `code_places::row::Code::used_below` meets its contract: where every word is below the bound, so is each that a row uses. Assumes nothing.
use Rattle.code.proofs.Tested.{all-passes}
use Rattle.code_places.proofs.row.Code.used_below.Goals as goal

pub returns-then-all_below : goal.returns-then-all_below
returns-then-all_below c = search all-passes
