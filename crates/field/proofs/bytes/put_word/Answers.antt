-- The eight bytes that are copied are a run of stores.
use Rattle.std.proofs.Common.{◌∙◌}
use Rattle.field.proofs.ByteWords.{word_put}
use Rattle.field.proofs.bytes.put_word.Goals as goal

pub returns : goal.returns
returns c = word_put c.args.bytes.now _ c.args.at c.args.word c.requires (c.copy_from_slice.ensures.after ∙ c.to_le_bytes.ensures)
