-- `code_places::used::all_below` meets its contract: the words left decide, four a turn and then one. Assumes nothing.
use mathlib.Core.Path.{◌∙◌, sym}
use Rattle.code_places.proofs.Words.{all-each}
use Rattle.code_places.proofs.used.all_below.Goals as goal

pub loop-rest-init : goal.loop-rest-init
loop-rest-init c = all-each _ _

pub returns : goal.returns
returns c = c.each_below.ensures ∙ all-each _ _ ∙ sym c.loop-rest.invariant
