-- `code_places::row::Code::row_term` meets its contract: the cipher's result put into the place. Assumes nothing.
use borrow.Author.Rules.{rules}
use Rattle.code.proofs.Terms.{place_is, word_is}
use Rattle.code_places.proofs.row.Code.row_term.Goals as goal

pub returns : goal.returns
returns c = (search place_is, search rules, search word_is)
