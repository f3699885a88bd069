-- The one word is stored.
use Rattle.std.proofs.Common.{ℕ, sym, arith}
use Rattle.algebra.proofs.Words.{put_one}
use Rattle.field.proofs.parts.U64FieldElement.put.Goals as goal

pub returns : goal.returns
returns c = sym (put_one (λ (a : ℕ). a) (λ w. w) c.args.words.now c.args.i c.args.self (omega arith))
