-- The tests leave a number at most 2^60 − 1 from zero; the element of one below zero is the negation of its distance from zero.
use Rattle.prime.proofs.SignedNeeds.{too_low, too_high, opposite_written, itself-written}
use Rattle.prime.proofs.prime.Prime.from_signed.Goals as goal
use Rattle.prime.proofs.prime.Prime.from_signed.Goals.{then-amount-lt-LEAST-via-then-amount-lt-LEAST, then-amount-lt-LEAST-via-else-amount-lt-LEAST+then-amount-gt-GREATEST}

pub returns-then-amount-lt-LEAST : goal.returns-then-amount-lt-LEAST
returns-then-amount-lt-LEAST c =
    elim c.then-amount-lt-LEAST.branch [
      | then-amount-lt-LEAST-via-then-amount-lt-LEAST w ↦ too_low c.ranges.amount w.if-amount-lt-LEAST.true
      | then-amount-lt-LEAST-via-else-amount-lt-LEAST+then-amount-gt-GREATEST w ↦ too_high c.ranges.amount w.if-amount-gt-GREATEST.true
    ]

pub returns-then-amount-lt0 : goal.returns-then-amount-lt0
returns-then-amount-lt0 c =
    opposite_written c.ranges.amount c.if-amount-lt-LEAST.false c.if-amount-gt-GREATEST.false c.unsigned_abs.ensures.value c.if-amount-lt0.true
    c.negate.ensures

pub returns-else-amount-lt0 : goal.returns-else-amount-lt0
returns-else-amount-lt0 c =
    itself-written c.ranges.amount c.if-amount-lt-LEAST.false c.if-amount-gt-GREATEST.false c.unsigned_abs.ensures.value c.if-amount-lt0.false
