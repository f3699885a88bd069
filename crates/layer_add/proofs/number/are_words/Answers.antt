-- In field 2 every word below p serves.
use Rattle.layer_add.proofs.Turns.{words_2}
use Rattle.layer_add.proofs.number.are_words.Goals as goal

pub returns-else-field-eq-BINARY : goal.returns-else-field-eq-BINARY
returns-else-field-eq-BINARY c = words_2 c.args.field c.args.words.now _ c.if-field-eq-BINARY.false c.are_elements.ensures
