-- The reduced word is below p, and folding keeps the class modulo p.
use native.Mathlib.Nat.{le_of_lt}
use Rattle.prime.proofs.Modular.{subtracted, reduced_word}
use Rattle.prime.proofs.prime.Prime.sub.Goals as goal

pub overflow_sub-taken : goal.overflow_sub-taken
overflow_sub-taken c = search (reduced_word, le_of_lt)

pub returns : goal.returns
returns c = search subtracted
