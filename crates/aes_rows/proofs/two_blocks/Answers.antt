-- For each block rounds 1 and 2 come from what is shared, then round by round.
use Rattle.std.proofs.Common.{arith, ◌+◌}
use Rattle.aes128.specs.Cipher.{rounds, cipher}
use Rattle.aes128.specs.Inner.Words.{round_keys}
use Rattle.aes_rows.proofs.RowRounds.{two_rounds}
use Rattle.aes_rows.proofs.two_blocks.Goals as goal

pub returns : goal.returns
unfolding round_keys rounds cipher
returns c = (
  cc (two_rounds c.args.keys.now c.args.x c.args.i c.requires.0 (omega arith) c.first_round-a1.ensures c.second_round-a2.ensures),
  cc (two_rounds c.args.keys.now c.args.x (c.args.i + 1) c.requires.0 c.requires.1 c.first_round-b1.ensures c.second_round-b2.ensures),
)
