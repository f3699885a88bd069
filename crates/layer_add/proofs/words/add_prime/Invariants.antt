-- The first k words are added.
use Rattle.std.proofs.Common.{◌≡◌, length}
use Rattle.layer_add.specs.Add.{prime_sum, word, sum_at}
use Rattle.algebra.specs.Coding.{over}
use Rattle.layer_add.proofs.words.add_prime.Given as goal

abbrev pub invariant-loop-k : goal.invariant-loop-k
invariant-loop-k l =
    (length l.into ≡ length l.initial.into) × (l.into ≡ over word l.k (sum_at prime_sum l.from l.initial.into) l.initial.into)
