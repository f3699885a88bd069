-- The entries of the bytes passed stand.
use Rattle.std.proofs.Common.{◌*◌}
use Rattle.aes_sbox.proofs.Filled.{Filled}
use Rattle.aes_sbox.proofs.fill_tables.Given as goal

abbrev pub invariant-loop-x : goal.invariant-loop-x
invariant-loop-x l = Filled l.words (6 * l.x)
