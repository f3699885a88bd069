-- `stock_calls::pass` meets its contract: refused by its number, or accepted with the unspent shares as blocks.
use Rattle.std.proofs.Common.{refl}
use Rattle.answer.proofs.Answers.{refused-with, accepted_now}
use Rattle.answer.proofs.Faults.{admitted_by}
use Rattle.answer.proofs.Refusals.{refusal-counts}
use Rattle.stock.specs.Calls.{pass}
use Rattle.stock_calls.proofs.Passed.{pass-blocks, pass_within}
use Rattle.stock_calls.proofs.pass.Goals as goal

pub blocks_of-requires : goal.blocks_of-requires
blocks_of-requires c =
    let a = (admitted_by _ 0 refl c.in-Ok.ensures.tests refl).all in
    pass_within _ _ c.in-Ok.ensures.unspent _ _ refl a.0 a.1.1.0

pub returns-in-Ok : goal.returns-in-Ok
unfolding pass
returns-in-Ok c = accepted_now _ _ _ _ c.in-Ok.ensures.tests (pass-blocks _ _ c.in-Ok.ensures.unspent _ _ c.blocks_of.ensures)

pub returns-in-Err : goal.returns-in-Err
unfolding pass
returns-in-Err c = refused-with _ _ _ _ _ c.in-Err.ensures.tests (refusal-counts _) (rw c.number.ensures)
