-- `and_triples::expander_triples` meets the page's contract. Assumes nothing.
use Rattle.page_two.proofs.Messages.{triples-returned}
use Rattle.expander.proofs.and_triples.expander_triples.Goals as goal

pub returns : goal.returns
returns c = search triples-returned
