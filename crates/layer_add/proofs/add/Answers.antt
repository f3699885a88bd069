-- Refused by its number, or accepted with the sum written.
use Rattle.std.proofs.Common.{refl}
use Rattle.layer_add.proofs.Turns.{add-refused, admitted, add-accepted}
use Rattle.answer.proofs.Refusals.{refusal-counts}
use Rattle.layer_add.specs.Add.{lent_add}
use Rattle.layer_add.proofs.add.Goals as goal

pub returns-in-Err : goal.returns-in-Err
returns-in-Err c =
    rw c.refused.ensures
    (add-refused c.args.field _ (lent_add c.args.from.now c.args.into.now) (refusal-counts c.in-Err.refusal) c.in-Err.ensures)

pub add_words-requires : goal.add_words-requires
add_words-requires c = admitted c.args.field 0 c.args.from.now c.args.into.now c.in_default.ensures refl

pub returns : goal.returns
returns c =
    add-accepted c.args.field 0 c.args.from.now c.args.into.now _ c.in_default.ensures refl c.add_words.auto.into c.add_words.ensures
