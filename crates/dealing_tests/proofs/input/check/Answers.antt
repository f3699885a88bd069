-- `dealing_tests::input::check` meets its contract, list by list. Assumes nothing.
use Rattle.std.proofs.Common.{refl}
use Rattle.answer.proofs.Refusals.{passed_on, refusal-some}
use Rattle.dealing.proofs.Number.{number-sizes, number-lengths, content-lengths, number-content, number_measured, number_rooms}
use Rattle.dealing_tests.proofs.input.check.Goals as goal

pub returns-in_err-check_sizes : goal.returns-in_err-check_sizes
returns-in_err-check_sizes c =
    rw (passed_on c.from_residual.result c.from_residual.ensures.1)
    (number-sizes c.args.input.now.layout _ _ _ _ _ _ c.in_err-check_sizes.ensures _ _ (refusal-some _))

pub returns-in_err-check_lengths : goal.returns-in_err-check_lengths
returns-in_err-check_lengths c =
    rw (passed_on c.from_residual-in_err-check_lengths.result c.from_residual-in_err-check_lengths.ensures.1)
    (number-lengths c.args.input.now.layout _ _ _ _ _ _ c.in_ok-check_sizes.ensures refl c.in_err-check_lengths.ensures _ _ (refusal-some _))

pub check_content-requires : goal.check_content-requires
check_content-requires c = content-lengths _ _ _ _ _ _ _ c.in_ok-check_lengths.ensures refl c.in_ok-check_sizes.ensures refl

pub returns-in_err-check_content : goal.returns-in_err-check_content
returns-in_err-check_content c =
    rw (passed_on c.from_residual-in_err-check_content.result c.from_residual-in_err-check_content.ensures.1)
    (number-content c.args.input.now.layout _ _ _ _ _ _ c.in_ok-check_sizes.ensures refl c.in_ok-check_lengths.ensures refl c.in_err-check_content.ensures _ _ (refusal-some _))

pub check_rooms-requires : goal.check_rooms-requires
check_rooms-requires c =
    number_measured _ _ _ _ _ _ _ c.in_ok-check_lengths.ensures refl c.in_ok-check_content.ensures refl c.in_ok-check_sizes.ensures refl c.requires

pub returns : goal.returns
returns c =
    number_rooms _ _ _ _ _ _ _ c.in_ok-check_sizes.ensures refl c.in_ok-check_lengths.ensures refl c.in_ok-check_content.ensures refl
    c.requires _ _ _ c.check_rooms.ensures
