-- `pairing_tests::heads::same_block` meets its contract: `==` compares the slices as the definition does.
use Rattle.pairing_tests.proofs.Same.{same_block}
use Rattle.pairing_tests.proofs.heads.same_block.Goals as goal

pub returns : goal.returns
returns c = same_block c.args.a.now c.args.x c.args.b.now c.args.y c.eq.ensures
