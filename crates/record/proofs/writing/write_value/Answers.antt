-- `record::writing::write_value` meets its contract. Assumes nothing.
use Rattle.record.proofs.Writes.{value_room, value-wrote}
use Rattle.record.proofs.writing.write_value.Goals as goal

pub put_word-requires : goal.put_word-requires
put_word-requires c = search value_room

pub returns : goal.returns
returns c = search value-wrote
