-- Round key 0 and those passed stand.
use Rattle.aes128.proofs.Held.{Held}
use Rattle.aes128.proofs.key.words_of.Given as goal

abbrev pub invariant-loop-i : goal.invariant-loop-i
invariant-loop-i l = Held l.k l.words l.i
