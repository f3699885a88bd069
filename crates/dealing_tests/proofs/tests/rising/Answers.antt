-- `dealing_tests::tests::rising` meets its contract, position by position. Assumes nothing.
use Rattle.dealing.proofs.Positions.{rising-low, rising-high, rising_done}
use Rattle.dealing_tests.proofs.tests.rising.Goals as goal
use Rattle.dealing_tests.proofs.tests.rising.Goals.{then-position-base-via-then-position-base, then-position-base-via-else-position-base+then-all-position}

pub returns-then-position-base : goal.returns-then-position-base
returns-then-position-base c =
    elim c.then-position-base.branch [
      | then-position-base-via-then-position-base w ↦ search rising-low
      | then-position-base-via-else-position-base+then-all-position w ↦ search rising-high
    ]

pub returns : goal.returns
returns c = search rising_done
