-- Round key 0 and those of the round constants passed stand.
use Rattle.aes128.proofs.Expansion.{Expanded}
use Rattle.aes128.proofs.key.expand_key.Given as goal

abbrev pub invariant-loop-i : goal.invariant-loop-i
invariant-loop-i l = Expanded l.fn.key l.keys l.i
