-- `stock_calls::open` meets its contract: refused by its number, or accepted with the shares as blocks.
use Rattle.std.proofs.Common.{true, refl, sym}
use Rattle.answer.proofs.Answers.{refused-with, accepted_now}
use Rattle.answer.proofs.Faults.{admitted_by}
use Rattle.answer.proofs.Refusals.{refusal-counts}
use Rattle.stock.specs.Calls.{open_stock}
use Rattle.stock.proofs.Opened.{open_fits, open_within, open_blocks, same_opening}
use Rattle.stock_calls.proofs.open.Goals as goal

pub overflow_cast-shares : goal.overflow_cast-shares
overflow_cast-shares c = let a = (admitted_by _ 0 refl c.in-Ok.ensures.tests refl).all in open_fits _ true (sym a.0) refl

pub blocks_of-requires : goal.blocks_of-requires
blocks_of-requires c =
    let a = (admitted_by _ 0 refl c.in-Ok.ensures.tests refl).all in
    open_within _ true (sym a.0) refl _ c.in-Ok.ensures.padded _ _ refl a.1.0 a.1.1.0

pub returns-in-Ok : goal.returns-in-Ok
unfolding open_stock
returns-in-Ok c =
    let a = (admitted_by _ 0 refl c.in-Ok.ensures.tests refl).all in
    same_opening _ _ _
    (accepted_now _ _ _ _ c.in-Ok.ensures.tests
    (open_blocks _ true (sym a.0) refl _ c.in-Ok.ensures.padded _ _ c.blocks_of.ensures))

pub returns-in-Err : goal.returns-in-Err
unfolding open_stock
returns-in-Err c = same_opening _ _ _ (refused-with _ _ _ _ _ c.in-Err.ensures.tests (refusal-counts _) c.refused_opening.ensures)
