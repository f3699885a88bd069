-- A byte's six entries follow those of the bytes before it, and all of them are the tables.
use Rattle.std.proofs.Common.{arith, ◌≡◌}
use Rattle.aes_sbox.specs.Byte.{s_box}
use Rattle.aes_sbox.proofs.Filled.{filled-byte, filled-all}
use Rattle.aes_sbox.proofs.fill_tables.Goals as goal

pub loop-x-preserved : goal.loop-x-preserved
loop-x-preserved c =
    let s : c.from-s.result ≡ s_box c.loop-x.x = cc in
    filled-byte c.loop-x.invariant c.loop-x-test.true s c.twice-d.ensures c.thrice-e.ensures c.column_of-m0.ensures c.column_of-m1.ensures
    c.half_turned.ensures c.half_turned-in-loop-x.ensures

pub returns : goal.returns
returns c = filled-all c.loop-x.invariant (omega arith)
