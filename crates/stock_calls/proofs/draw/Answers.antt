-- `stock_calls::draw` meets its contract: refused by its number, or accepted.
use Rattle.std.proofs.Common.{refl}
use Rattle.answer.proofs.Faults.{admitted_by}
use Rattle.answer.proofs.Answers.{refused-with, accepted_now}
use Rattle.answer.proofs.Refusals.{refusal-counts}
use Rattle.stock.specs.Calls.{draw}
use Rattle.stock_calls.proofs.draw.Goals as goal

pub returns-in-Err : goal.returns-in-Err
unfolding draw
returns-in-Err c = refused-with _ _ _ _ _ c.in-Err.ensures (refusal-counts _) c.refused_draw.ensures

pub accepted_draw-requires : goal.accepted_draw-requires
accepted_draw-requires c = let a = (admitted_by _ 0 refl c.in_default.ensures refl).all in (a.1.0, a.1.1.0)

pub returns : goal.returns
unfolding draw
returns c = accepted_now _ _ _ _ c.in_default.ensures c.accepted_draw.ensures
