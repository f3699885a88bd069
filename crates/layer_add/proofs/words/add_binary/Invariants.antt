-- The first k words are added.
use Rattle.std.proofs.Common.{◌≡◌, length}
use lib.Bits.{bit_xor}
use Rattle.layer_add.specs.Add.{word, sum_at}
use Rattle.algebra.specs.Coding.{over}
use Rattle.layer_add.proofs.words.add_binary.Given as goal

abbrev pub invariant-loop-k : goal.invariant-loop-k
invariant-loop-k l =
    (length l.into ≡ length l.initial.into) × (l.into ≡ over word l.k (sum_at bit_xor l.from l.initial.into) l.initial.into)
