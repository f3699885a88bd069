-- `dealing_tests::tests::rising`: the positions passed rise and are below N, and `base` is one more than the last of them.
use Rattle.std.proofs.Common.{length, ◌^◌}
use Rattle.dealing.proofs.Positions.{Risen}
use Rattle.dealing_tests.proofs.tests.rising.Given as goal

abbrev pub invariant-loop-position : goal.invariant-loop-position
invariant-loop-position l = Risen (2 ^ l.depth) (length l.positions) l.positions l.base l.position-index
