-- No word, one word more, and all of them; the words not yet added are below p.
use Rattle.std.proofs.Common.{refl, rules, arith}
use Rattle.algebra.proofs.Written.{front-none}
use Rattle.layer_add.specs.Add.{prime_sum}
use Rattle.layer_add.proofs.Turns.{word_below, still-below, word_more, words-all}
use Rattle.layer_add.proofs.words.add_prime.Goals as goal

pub loop-k-init : goal.loop-k-init
loop-k-init c = (refl, search front-none)

pub prime_sum-requires : goal.prime_sum-requires
prime_sum-requires c = (search word_below, search still-below)

pub loop-k-preserved : goal.loop-k-preserved
loop-k-preserved c = (
  search rules,
  word_more prime_sum c.args.from.now c.args.into.now c.loop-k.into c.loop-k.k c.loop-k.invariant.1 _ (omega arith) c.loop-k.invariant.0 c.prime_sum.ensures,
)

pub returns : goal.returns
returns c =
    words-all prime_sum c.args.from.now c.args.into.now c.loop-k.into c.loop-k.k c.loop-k.invariant.1 (omega arith) (omega arith) c.loop-k.invariant.0
