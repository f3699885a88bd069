-- `code_places::row::Code::row_below` meets its contract, term by term. Assumes nothing.
use Rattle.std.proofs.Common.{rules}
use Rattle.code.proofs.Tested.{terms-none, term_more, term_stop, terms_done}
use Rattle.code_places.proofs.row.Code.row_below.Goals as goal

pub loop-i-init : goal.loop-i-init
loop-i-init c = search (rules, terms-none)

pub returns-then-bound-words : goal.returns-then-bound-words
returns-then-bound-words c = search term_stop

pub loop-i-preserved : goal.loop-i-preserved
loop-i-preserved c = search (rules, term_more)

pub returns : goal.returns
returns c = search terms_done
