-- No word, one word more, and all of them.
use Rattle.std.proofs.Common.{refl, rules, arith}
use lib.Bits.{bit_xor}
use Rattle.algebra.proofs.Written.{front-none}
use Rattle.layer_add.proofs.Turns.{word_more, words-all}
use Rattle.layer_add.proofs.words.add_binary.Goals as goal

pub loop-k-init : goal.loop-k-init
loop-k-init c = (refl, search front-none)

pub loop-k-preserved : goal.loop-k-preserved
loop-k-preserved c = (
  search rules,
  word_more bit_xor c.args.from.now c.args.into.now c.loop-k.into c.loop-k.k c.loop-k.invariant.1 _ (omega arith) c.loop-k.invariant.0 refl,
)

pub returns : goal.returns
returns c =
    words-all bit_xor c.args.from.now c.args.into.now c.loop-k.into c.loop-k.k c.loop-k.invariant.1 (omega arith) (omega arith) c.loop-k.invariant.0
