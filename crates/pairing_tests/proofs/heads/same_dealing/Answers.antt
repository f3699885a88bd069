-- `pairing_tests::heads::same_dealing` meets its contract: sizes, code key and label in turn.
use Rattle.std.proofs.Common.{◌≡◌, true, false, rules}
use Rattle.pairing_tests.proofs.Same.{sizes-differ, key_differs, label-left}
use Rattle.pairing_tests.proofs.heads.same_dealing.Goals as goal
use Rattle.pairing_tests.proofs.heads.same_dealing.Goals.{then-same_sizes, else-same_sizes}

pub returns-then-same_block : goal.returns-then-same_block
returns-then-same_block c = elim c.if-same_sizes.branch [
  | then-same_sizes w ↦ let key : w.same_block.result ≡ true = cc in search (label-left, rules)
  | else-same_sizes w ↦ cc
]

pub returns-else-same_block : goal.returns-else-same_block
returns-else-same_block c = elim c.if-same_sizes.branch [
  | then-same_sizes w ↦ let key : w.same_block.result ≡ false = cc in rw w.value-is (search (key_differs, rules))
  | else-same_sizes w ↦ rw (w.value-is, w.if-same_sizes.false) (search (sizes-differ, rules))
]
