-- `pads_triples::triples` meets its contract: refused by its number, or accepted with the triples written.
use Rattle.std.proofs.Common.{refl, rules}
use Rattle.answer.proofs.Answers.{accepted_now}
use Rattle.answer.proofs.Faults.{admitted_by}
use Rattle.answer.proofs.Refusals.{refusal-counts}
use Rattle.pads.specs.Triples.Call.{triples}
use Rattle.pads.proofs.Triples.Accepts.{triples_fit}
use Rattle.pads.proofs.Triples.Refused.{triples-refused}
use Rattle.pads_triples.proofs.triples.Goals as goal

pub returns-in-Err : goal.returns-in-Err
returns-in-Err c = rw c.refused.ensures (triples-refused _ _ c.in-Err.ensures (refusal-counts _))

pub write_triples-requires : goal.write_triples-requires
write_triples-requires c = admitted_by _ 0 refl c.in_default.ensures refl

pub overflow_mul-result : goal.overflow_mul-result
overflow_mul-result c = triples_fit _ _ _ _ 0 c.in_default.ensures refl (search rules)

pub returns : goal.returns
unfolding triples
returns c = accepted_now _ _ _ _ c.in_default.ensures (rw c.write_triples.ensures)
