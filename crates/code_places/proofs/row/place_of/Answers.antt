-- `code_places::row::place_of` meets its contract: strip i and what a word leaves in it lie within the N places. Assumes nothing.
use Rattle.code.proofs.Terms.{place-named, place-below}
use Rattle.code_places.proofs.row.place_of.Goals as goal

pub returns : goal.returns
returns c = (search place-named, search place-below)
