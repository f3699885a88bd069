-- The numbers of the first and of the last eight bytes, their products carried out.
use Rattle.std.proofs.Common.{◌≡◌, arith}
use Rattle.field.specs.Bytes.{le_number, low_of, high_of}
use Rattle.field.proofs.block.Block.of_columns.Goals as goal

pub returns : goal.returns
unfolding le_number low_of high_of
returns c =
    let low : c.from_le_bytes.result ≡ low_of c.args.columns = omega arith in
    let high : c.from_le_bytes-2.result ≡ high_of c.args.columns = omega arith in
    rw (low, high)
