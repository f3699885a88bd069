-- `record::writing::write_bytes` meets its contract: byte after byte stands in its place. Assumes nothing.
use Rattle.std.proofs.Common.{arith}
use Rattle.record.proofs.Writes.{byte-stored, bytes-wrote}
use Rattle.record.proofs.writing.write_bytes.Goals as goal

pub loop-i-preserved : goal.loop-i-preserved
loop-i-preserved c = byte-stored c.args.buffer.now c.args.at c.args.bytes.now c.loop-i.i c.loop-i.invariant c.loop-i-test.true

pub returns : goal.returns
returns c = bytes-wrote c.args.buffer.now c.args.at c.args.bytes.now c.loop-i.i c.loop-i.invariant (omega arith)
