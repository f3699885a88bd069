-- `pair_line::judge::compare` meets its contract, test by test.
use Rattle.std.proofs.Common.{arith}
use Rattle.pair_line.proofs.Judged.{first_large, second_large, other-dealing, one-dealing}
use Rattle.pair_line.proofs.judge.compare.Goals as goal
use Rattle.pair_line.proofs.judge.compare.Goals.{then-leaves-gt-MOST_LEAVES-via-then-leaves-gt-MOST_LEAVES, then-leaves-gt-MOST_LEAVES-via-else-leaves-gt-MOST_LEAVES+then-leaves-gt-MOST_LEAVES-2}

pub returns-then-leaves-gt-MOST_LEAVES : goal.returns-then-leaves-gt-MOST_LEAVES
returns-then-leaves-gt-MOST_LEAVES c = elim c.then-leaves-gt-MOST_LEAVES.branch [
  | then-leaves-gt-MOST_LEAVES-via-then-leaves-gt-MOST_LEAVES w ↦ search first_large
  | then-leaves-gt-MOST_LEAVES-via-else-leaves-gt-MOST_LEAVES+then-leaves-gt-MOST_LEAVES-2 w ↦ search second_large
]

pub returns-then-not-same_dealing : goal.returns-then-not-same_dealing
returns-then-not-same_dealing c = search other-dealing

pub held_outputs-requires-clause-paired : goal.held_outputs-requires-clause-paired
held_outputs-requires-clause-paired c =
    record { head = one-dealing c.same_dealing.ensures c.if-not-same_dealing.false; small = omega arith; small_too = omega arith }
