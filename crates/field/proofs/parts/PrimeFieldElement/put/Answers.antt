-- The one word is stored.
use Rattle.std.proofs.Common.{sym, arith}
use Rattle.algebra.proofs.Words.{put_one}
use Rattle.prime.specs.Prime.{prime}
use Rattle.field.proofs.parts.PrimeFieldElement.put.Goals as goal

pub returns : goal.returns
returns c = sym (put_one (λ a. a.word) prime c.args.words.now c.args.i c.args.self (omega arith))
