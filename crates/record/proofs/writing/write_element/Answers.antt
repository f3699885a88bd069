-- `record::writing::write_element` meets its contract. Assumes nothing.
use Rattle.record.proofs.Writes.{element-room, element-wrote}
use Rattle.record.proofs.writing.write_element.Goals as goal

pub put_element-requires : goal.put_element-requires
put_element-requires c = search element-room

pub returns : goal.returns
returns c = search element-wrote
