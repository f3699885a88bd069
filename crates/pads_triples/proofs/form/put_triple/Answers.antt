-- `pads_triples::form::put_triple` meets its contract: three stores write the triple.
use Rattle.pads.proofs.Triples.Turns.{triple-stored}
use Rattle.pads_triples.proofs.form.put_triple.Goals as goal

pub returns : goal.returns
returns c = search triple-stored
